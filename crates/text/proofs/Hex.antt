-- Hexadecimal digits: one more, and how many.
use Prim.Native.Nat.{ℕ, zero, suc, ◌-◌, ◌/◌, ◌%◌, ◌<◌}
use mathlib.Core.List.{[], ◌∷◌, ◌++◌}
use mathlib.Core.Path.{◌≡◌, refl}
use native.Mathlib.Omega.{arith}
use lib.ListN.{length, length-append}
use Rattle.text.specs.Digits.{hex_digit, hex_of}

pub hex_none : (digits n : ℕ) → digits ≡ 0 → hex_of digits n ≡ []
unfolding hex_of
hex_none zero n e = refl
hex_none (suc digits) n e = absurd (omega arith)

pub hex_more : (digits n : ℕ) → 0 < digits → hex_of digits n ≡ hex_of (digits - 1) (n / 16) ++ (hex_digit (n % 16) ∷ [])
unfolding hex_of
hex_more zero n h = absurd (omega arith)
hex_more (suc digits) n h =
    let before : suc digits - 1 ≡ digits = omega arith in
    rw before

-- exactly so many digits
pub hex_length : (digits n : ℕ) → length (hex_of digits n) ≡ digits
unfolding hex_of
hex_length zero n = refl
hex_length (suc digits) n = rw length-append (omega (arith, hex_length digits (n / 16)))
