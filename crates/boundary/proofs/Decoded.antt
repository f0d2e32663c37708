-- A packed answer can be read off again: the number and the value, the field of a 13, and the parts of a clock.
use Prim.Native.Nat.{ℕ, ◌/◌, ◌%◌, ◌^◌, ◌<◌}
use mathlib.Core.Bool.{Bool, true, false}
use mathlib.Core.Path.{◌≡◌, refl}
use native.Mathlib.Omega.{arith}
use lib.Pow.{high, low}
use Rattle.types.specs.declared.clock.Clock.{Clock}
use Rattle.types.specs.declared.error.Error.TheVariants.{UnsupportedCardType, BadClock, InvalidBufferLength, AddressOutOfRange}
use Rattle.types.specs.declared.error.Field.{Field}
use Rattle.types.specs.Answer.{flag, field_number, error_told}
use Rattle.types.proofs.Bounds.{field_most}
use Rattle.boundary.specs.Packed.{packed, refused_word, clock_value}

pub decoded : (number value : ℕ) → value < 2 ^ 56 → (packed number value / 2 ^ 56 ≡ number) × (packed number value % 2 ^ 56 ≡ value)
decoded number value h = (high number 56 h, low number 56 h)

-- of a refusal with 13 the field's number stands in the low seven bytes, and nothing else does
pub field_told : (field : Field) → (refused_word (UnsupportedCardType field) / 2 ^ 56 ≡ 13) × (refused_word (UnsupportedCardType field) % 2 ^ 56 ≡ field_number field)
unfolding error_told
field_told field = decoded 13 (field_number field) (omega (arith, (field_most field).1))

-- the other three refusals of these functions have 0 there
pub others-bare : (refused_word BadClock ≡ packed 17 0) × ((refused_word InvalidBufferLength ≡ packed 19 0) × (refused_word AddressOutOfRange ≡ packed 20 0))
unfolding error_told
others-bare = (refl, (refl, refl))

flag_lt : (b : Bool) → flag b < 2
flag_lt true = omega arith
flag_lt false = omega arith

-- a clock's value is a value, and its three parts stand at their places
pub clock-parts : (c : Clock) → c.divisor < 2 ^ 8 → c.frequency.0 < 2 ^ 32
    → (clock_value c < 2 ^ 56) × (clock_value c / 2 ^ 40 ≡ flag c.bypass) × (clock_value c / 2 ^ 32 % 2 ^ 8 ≡ c.divisor) × (clock_value c % 2 ^ 32 ≡ c.frequency.0)
clock-parts c hd hf =
    let hb = flag_lt c.bypass in
    (omega arith, omega arith, omega arith, omega arith)
