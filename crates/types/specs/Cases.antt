-- Document 01, 'Cases on each side': K1 to K11, as one table of what the definitions give and what is due: with the field at 13, of a
-- CSD of structure 2 and of 3 too, and of rates that break two rules or three; beside K6 the bargain card of P6; the bound of a
-- card's size; and P8's number of a CSD, with nothing but the two bits set or nothing but them clear, and of its refusal.
use Rattle.std.specs.Prelude.{ℕ, ◌+◌, ◌*◌, ◌-◌, ◌^◌, true, false, List, [], ◌∷◌, map, ◌≡◌, refl}
use Rattle.types.specs.declared.card.CardCapacity.TheVariants.{SDSC, SDHC}
use Rattle.types.specs.declared.error.Error.TheVariants.{WriteProtected}
use Rattle.types.specs.Answer.{Told, told, field_number, error_told, clock_told, count_told, rate_told, address_told, size_told, data_told}
use Rattle.types.specs.Leaf.{divisor_of, clock_of, count_of, rate_of, units_of, address_of, size_of, first_match, data_of, protection_of, protect_number}

pub record Case : Type 0 where
  pub got : Told
  pub due : Told

infix 5 ◌due◌
abbrev ◌due◌ : Told → Told → Case
got due t = record { got = got; due = t }

-- a CSD of version 1 with this block length, size and multiplier, and one of version 2
abbrev csd1 : ℕ → ℕ → ℕ → ℕ
csd1 l size multiplier = l * 2 ^ 80 + size * 2 ^ 62 + multiplier * 2 ^ 47

abbrev csd2 : ℕ → ℕ → ℕ
csd2 l size = 2 ^ 126 + l * 2 ^ 80 + size * 2 ^ 48

abbrev protect : ℕ → Told
protect csd = told 0 (protect_number (protection_of csd) ∷ [])

abbrev pub table : List Case
table =
    (clock_told (clock_of 102_800_000 400_000 false) due told 0 (255 ∷ 0 ∷ 400_000 ∷ []))
    ∷ (clock_told (clock_of 102_800_001 400_000 false) due told 17 [])
    ∷ (clock_told (clock_of 144_000_000 25_000_000 false) due told 0 (4 ∷ 0 ∷ 24_000_000 ∷ []))
    ∷ (clock_told (clock_of 1 400_000 false) due told 0 (0 ∷ 0 ∷ 0 ∷ []))
    ∷ (clock_told (clock_of 25_000_000 25_000_000 false) due told 0 (0 ∷ 0 ∷ 12_500_000 ∷ []))
    ∷ (clock_told (clock_of 25_000_000 25_000_000 true) due told 0 (0 ∷ 1 ∷ 25_000_000 ∷ []))
    ∷ (count_told (count_of (csd1 9 0 0)) due told 0 (4 ∷ []))
    ∷ (count_told (count_of (csd1 11 4095 7)) due told 0 (8_388_608 ∷ []))
    ∷ (count_told (count_of (csd1 8 0 0)) due told 13 (2 ∷ []))
    ∷ (count_told (count_of (csd1 12 0 0)) due told 13 (2 ∷ []))
    ∷ (count_told (count_of (csd2 9 0)) due told 0 (1_024 ∷ []))
    ∷ (count_told (count_of (csd2 9 0x3f_ffff)) due told 0 (4_294_967_296 ∷ []))
    ∷ (count_told (count_of (csd2 10 0)) due told 13 (2 ∷ []))
    ∷ (rate_told (rate_of 0x32) due told 0 (25_000_000 ∷ []))
    ∷ (rate_told (rate_of 0x5a) due told 0 (50_000_000 ∷ []))
    ∷ (rate_told (rate_of 0x02) due told 13 (4 ∷ []))
    ∷ (rate_told (rate_of 0xb2) due told 13 (5 ∷ []))
    ∷ (rate_told (rate_of 0x34) due told 13 (3 ∷ []))
    ∷ (count_told (count_of (2 ^ 127)) due told 13 (1 ∷ []))
    ∷ (count_told (count_of (3 * 2 ^ 126)) due told 13 (1 ∷ []))
    ∷ (rate_told (rate_of 0x04) due told 13 (3 ∷ []))
    ∷ (rate_told (rate_of 0x82) due told 13 (5 ∷ []))
    ∷ (rate_told (rate_of 0xb4) due told 13 (5 ∷ []))
    ∷ (rate_told (rate_of 0x84) due told 13 (5 ∷ []))
    ∷ (address_told (address_of SDSC 8_388_608 8_388_607 1) due told 0 (4_294_966_784 ∷ []))
    ∷ (address_told (address_of SDSC 8_388_608 8_388_607 2) due told 20 [])
    ∷ (address_told (address_of SDHC 4_294_967_296 4_294_967_295 1) due told 0 (4_294_967_295 ∷ []))
    ∷ (address_told (address_of SDHC 1_024 0 511) due told 0 (0 ∷ []))
    ∷ (address_told (address_of SDHC 1_024 0 512) due told 19 [])
    ∷ (address_told (address_of SDHC 1_024 0 0) due told 19 [])
    ∷ (data_told (data_of 0x23a) due told 1 [])
    ∷ (data_told (data_of 0x232) due told 3 [])
    ∷ (data_told (data_of 0x230) due told 5 [])
    ∷ (data_told (data_of 0x210) due told 6 [])
    ∷ (data_told (data_of 0x200) due told 4 [])
    ∷ (size_told (size_of 4_294_967_296) due told 0 (2_199_023_255_552 ∷ []))
    ∷ (size_told (size_of 4_294_967_297) due told 20 [])
    ∷ (protect 0 due told 0 (0 ∷ []))
    ∷ (protect 0x1000 due told 0 (1 ∷ []))
    ∷ (protect 0x2000 due told 0 (2 ∷ []))
    ∷ (protect 0x3000 due told 0 (3 ∷ []))
    ∷ (protect (2 ^ 128 - 1 - 0x3000) due told 0 (0 ∷ []))
    ∷ (error_told WriteProtected due told 26 [])
    ∷ []

pub cases : map (λ (c : Case). c.got) table ≡ map (λ (c : Case). c.due) table
unfolding field_number error_told clock_told count_told rate_told address_told size_told data_told divisor_of clock_of count_of rate_of units_of address_of size_of first_match data_of protection_of
cases = refl
