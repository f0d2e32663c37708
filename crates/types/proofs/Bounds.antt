-- How large the answers can be: an SDSC card has at most 8,388,608 blocks, any card at most 4,294,967,296; a field is 1 to 8.
use Rattle.std.specs.Prelude.{Ok, Err}
use Prim.Native.Nat.{ℕ, ◌+◌, ◌*◌, ◌-◌, ◌^◌, ◌<◌, ◌≤◌}
use mathlib.Core.Bool.{Bool, true, false, cond, ◌||◌}
use mathlib.Core.Path.{◌≡◌, refl}
use native.Mathlib.Nat.{mul-le-mul}
use native.Mathlib.Omega.{arith}
use lib.Dec.{eqb, ltb}
use lib.Pow.{pow_mono}
use borrow.Author.Tests.{ltb-false}
use Rattle.types.specs.declared.register.BlockCount.{BlockCount}
use Rattle.types.specs.declared.error.Error.TheVariants.{UnsupportedCardType}
use Rattle.types.specs.declared.error.Field.{Field}
use Rattle.types.specs.declared.error.Field.TheVariants as F
use Rattle.types.specs.Answer.{field_number}
use Rattle.types.specs.Bits.{bits}
use Rattle.types.specs.Leaf.{count_of}

-- twelve bits of size, three of multiplier, a block length of at most 2 ^ 11
standard : (size multiplier l : ℕ) → size < 2 ^ 12 → multiplier < 2 ^ 3 → l ≤ 11 → (size + 1) * 2 ^ (multiplier + 2 + (l - 9)) ≤ 8_388_608
standard size multiplier l hs hm hl = mul-le-mul {n₂ = 2 ^ 12} (omega arith) (pow_mono {j = 11} (omega arith))

-- twenty-two bits of size
high : (size : ℕ) → size < 2 ^ 22 → (size + 1) * 1024 ≤ 4_294_967_296
high size h = omega arith

-- what an answer's count is at most, by the structure of its CSD
abbrev pub most : Bool → ℕ
most true = 8_388_608
most false = 4_294_967_296

pub count_most : (csd : ℕ) (n : BlockCount) → count_of csd ≡ Ok n → n.0 ≤ most (eqb (bits csd 127 126) 0)
unfolding count_of
count_most csd n e = by (eqb (bits csd 127 126) 0) (ltb (bits csd 83 80) 9) (ltb 11 (bits csd 83 80)) (eqb (bits csd 127 126) 1) (eqb (bits csd 83 80) 9) refl e
  where
    one : ℕ
    one = (bits csd 73 62 + 1) * 2 ^ (bits csd 49 47 + 2 + (bits csd 83 80 - 9))

    two : ℕ
    two = (bits csd 69 48 + 1) * 1024

    by : (v short long w nine : Bool) → ltb 11 (bits csd 83 80) ≡ long
        → cond v (cond (short || long) (Err (UnsupportedCardType F.BlockLength)) (Ok (record { 0 = one })))
        (cond w (cond nine (Ok (record { 0 = two })) (Err (UnsupportedCardType F.BlockLength))) (Err (UnsupportedCardType F.CsdVersion))) ≡ Ok n
        → n.0 ≤ most v
    by true true long w nine h e = let z : ◌≡◌ {A = ℕ} 0 1 = cc in absurd (omega arith)
    by true false true w nine h e = let z : ◌≡◌ {A = ℕ} 0 1 = cc in absurd (omega arith)
    by true false false w nine h e =
        let same : one ≡ n.0 = cc in
        rw (← same) (standard (bits csd 73 62) (bits csd 49 47) (bits csd 83 80) (omega arith) (omega arith) (ltb-false 11 (bits csd 83 80) h))
    by false short long true true h e =
        let same : two ≡ n.0 = cc in
        rw (← same) (high (bits csd 69 48) (omega arith))
    by false short long true false h e = let z : ◌≡◌ {A = ℕ} 0 1 = cc in absurd (omega arith)
    by false short long false nine h e = let z : ◌≡◌ {A = ℕ} 0 1 = cc in absurd (omega arith)

pub field_most : (field : Field) → (1 ≤ field_number field) × (field_number field ≤ 8)
unfolding field_number
field_most F.CsdVersion = (omega arith, omega arith)
field_most F.BlockLength = (omega arith, omega arith)
field_most F.RateUnit = (omega arith, omega arith)
field_most F.RateValue = (omega arith, omega arith)
field_most F.RateReservedBit = (omega arith, omega arith)
field_most F.CsdAndOcr = (omega arith, omega arith)
field_most F.Voltage = (omega arith, omega arith)
field_most F.AppCommand = (omega arith, omega arith)
