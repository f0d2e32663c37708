-- Document 01, 'Leaf rules': the arithmetic of the driver's plain functions, in its order and words.
use Rattle.std.specs.Prelude.{ℕ, ◌+◌, ◌*◌, ◌-◌, ◌/◌, ◌^◌, max, Bool, true, false, cond, ◌||◌, ◌&&◌, List, [], ◌∷◌, eqb, ltb, leb, get_or, Result, Ok, Err}
use Rattle.types.specs.declared.clock.Clock.{Clock}
use Rattle.types.specs.declared.register.BlockCount.{BlockCount}
use Rattle.types.specs.declared.error.Error.{Error}
use Rattle.types.specs.declared.error.Error.TheVariants as E
use Rattle.types.specs.declared.error.Field.TheVariants as F
use Rattle.types.specs.declared.register.Protection.{Protection}
use Rattle.types.specs.declared.card.CardCapacity.{CardCapacity}
use Rattle.types.specs.declared.card.CardCapacity.TheVariants.{SDSC, SDHC}
use Rattle.types.specs.Answer.{flag}
use Rattle.types.specs.Bits.{bits, bit, clear}

-- a quotient rounded up
abbrev pub rounded_up : ℕ → ℕ → ℕ
rounded_up a b = (a + (b - 1)) / b

-- Clock. Source/request rounded up, at least 2
unfoldable pub divisor_of : ℕ → ℕ → ℕ
divisor_of source requested = max 2 (rounded_up source requested)

-- source 0, request 0 or over 80,000,000: 17. With bypass allowed and source at most the request: field 0, bypass,
-- frequency = source. Else the divisor; over 257 is 17; field = divisor - 2; frequency = source/divisor rounded down
unfoldable pub clock_of : ℕ → ℕ → Bool → Result Clock Error
clock_of source requested bypass =
    cond (eqb source 0) (Err E.BadClock)
    (cond (eqb requested 0) (Err E.BadClock)
    (cond (ltb 80_000_000 requested) (Err E.BadClock)
    (cond (bypass && leb source requested)
    (Ok (record { divisor = 0; bypass = true; frequency = record { 0 = source } }))
    (cond (ltb 257 (divisor_of source requested)) (Err E.BadClock)
    (Ok
    (record {
      divisor = divisor_of source requested - 2;
      bypass = false;
      frequency = record { 0 = source / divisor_of source requested };
    }))))))

-- Data status, first match
pub record Rule : Type 0 where
  pub mask : ℕ
  pub error : Error

abbrev pub rule : ℕ → Error → Rule
rule mask error = record { mask = mask; error = error }

unfoldable pub first_match : ℕ → List Rule → Result (Unit {0}) Error
first_match word [] = Ok tt
first_match word (r ∷ rs) = cond (clear r.mask word) (first_match word rs) (Err r.error)

unfoldable pub data_of : ℕ → Result (Unit {0}) Error
data_of status =
    first_match status
    (rule 0x8 E.Timeout ∷ rule 0x2 E.Crc ∷ rule 0x20 E.Overrun ∷ rule 0x10 E.Underrun ∷ rule 0x200 E.StBitErr ∷ [])

-- Capacity. Bits 127:126 = 0: bits 83:80 = L in 9 to 11, else 13 (block length); count = (bits 73:62 + 1) * 2^(bits 49:47 + 2 + L - 9).
-- 127:126 = 1: L = 9, else 13 (block length; P6); (bits 69:48 + 1) * 1024. Otherwise 13 (CSD version)
unfoldable pub count_of : ℕ → Result BlockCount Error
count_of csd =
    let l = bits csd 83 80 in
    cond (eqb (bits csd 127 126) 0)
    (cond (ltb l 9 || ltb 11 l) (Err (E.UnsupportedCardType F.BlockLength))
    (Ok (record { 0 = (bits csd 73 62 + 1) * 2 ^ (bits csd 49 47 + 2 + (l - 9)) })))
    (cond (eqb (bits csd 127 126) 1)
    (cond (eqb l 9) (Ok (record { 0 = (bits csd 69 48 + 1) * 1024 }))
    (Err (E.UnsupportedCardType F.BlockLength)))
    (Err (E.UnsupportedCardType F.CsdVersion)))

-- Rate, of the byte in CSD bits 103:96
abbrev pub rate_units : List ℕ
rate_units = 100_000 ∷ 1_000_000 ∷ 10_000_000 ∷ 100_000_000 ∷ []

abbrev pub rate_tenths : List ℕ
rate_tenths = 0 ∷ 10 ∷ 12 ∷ 13 ∷ 15 ∷ 20 ∷ 25 ∷ 30 ∷ 35 ∷ 40 ∷ 45 ∷ 50 ∷ 55 ∷ 60 ∷ 70 ∷ 80 ∷ []

-- bit 7 set, low three bits over 3, or bits 6:3 zero: 13, and of several the first (P4: reserved bit, unit, value). Else the
-- unit divided by 10, times the value
unfoldable pub rate_of : ℕ → Result ℕ Error
rate_of byte =
    cond (bit byte 7) (Err (E.UnsupportedCardType F.RateReservedBit))
    (cond (ltb 3 (bits byte 2 0)) (Err (E.UnsupportedCardType F.RateUnit))
    (cond (eqb (bits byte 6 3) 0) (Err (E.UnsupportedCardType F.RateValue))
    (Ok (get_or rate_units (bits byte 2 0) 0 / 10 * get_or rate_tenths (bits byte 6 3) 0))))

-- Address. 19 for 0 blocks or over 511; 20 when index plus count exceeds the block count; then SDSC 512 * index, SDHC
-- the index. A product over 32 bits gives 20
unfoldable pub units_of : CardCapacity → ℕ → Result ℕ Error
units_of SDSC index = cond (ltb (512 * index) (2 ^ 32)) (Ok (512 * index)) (Err E.AddressOutOfRange)
units_of SDHC index = Ok index

unfoldable pub address_of : CardCapacity → ℕ → ℕ → ℕ → Result ℕ Error
address_of class blocks index count =
    cond (eqb count 0 || ltb 511 count) (Err E.InvalidBufferLength)
    (cond (ltb blocks (index + count)) (Err E.AddressOutOfRange) (units_of class index))

-- Size. 512 * count; a count over 4,294,967,296 gives 20
unfoldable pub size_of : ℕ → Result ℕ Error
size_of count = cond (ltb 4_294_967_296 count) (Err E.AddressOutOfRange) (Ok (512 * count))

-- Write protection (P8), of a CSD: bit 13 permanent, bit 12 temporary; either stops a write; 2 if permanent plus 1 if temporary
unfoldable pub protection_of : ℕ → Protection
protection_of csd = record { permanent = bit csd 13; temporary = bit csd 12 }

abbrev pub stops_writes : Protection → Bool
stops_writes p = p.permanent || p.temporary

abbrev pub protect_number : Protection → ℕ
protect_number p = 2 * flag p.permanent + flag p.temporary
