-- Document 01, 'Leaf rules' and the order at making, told as it tells answers: a number, and values where it is 0 or 13. THESE ARE TO
-- BE BELIEVED of the plain functions. Leaf.antt has the same rules in the driver's enums, for contracts and plans to cite; proofs/Told.antt shows
-- that its answers are told so, and `unique` that the functions' are. So no name of an enum's case has to be believed.
use Rattle.std.specs.Prelude.{ℕ, ◌+◌, ◌*◌, ◌-◌, ◌/◌, ◌^◌, Bool, not, cond, ◌||◌, ◌&&◌, [], ◌∷◌, eqb, ltb, leb, get_or}
use Rattle.types.specs.declared.card.CardCapacity.{CardCapacity}
use Rattle.types.specs.declared.card.CardCapacity.TheVariants.{SDSC, SDHC}
use Rattle.types.specs.declared.config.Config.{Config}
use Rattle.types.specs.Answer.{Told, told}
use Rattle.types.specs.Bits.{bits, bit, clear}
use Rattle.types.specs.Leaf.{divisor_of, rate_units, rate_tenths}

-- Clock: divisor field, bypass, frequency. Source 0, request 0 or over 80,000,000: 17. With bypass allowed and source at most
-- the request: field 0, bypass, frequency = source. Else divisor over 257 is 17; field = divisor - 2; source/divisor
unfoldable pub clock_rule : ℕ → ℕ → Bool → Told
clock_rule source requested bypass =
    cond (eqb source 0 || (eqb requested 0 || ltb 80_000_000 requested)) (told 17 [])
    (cond (bypass && leb source requested) (told 0 (0 ∷ 1 ∷ source ∷ []))
    (cond (ltb 257 (divisor_of source requested)) (told 17 [])
    (told 0 ((divisor_of source requested - 2) ∷ 0 ∷ (source / divisor_of source requested) ∷ []))))

-- Data status, first match: 0x8 Timeout, 0x2 Crc, 0x20 Overrun, 0x10 Underrun, 0x200 StBitErr
unfoldable pub data_rule : ℕ → Told
data_rule status =
    cond (not (clear 0x8 status)) (told 1 [])
    (cond (not (clear 0x2 status)) (told 3 [])
    (cond (not (clear 0x20 status)) (told 5 [])
    (cond (not (clear 0x10 status)) (told 6 [])
    (cond (not (clear 0x200 status)) (told 4 []) (told 0 [])))))

-- Capacity: blocks of 512 bytes. 127:126 = 0: bits 83:80 = L in 9 to 11, else 13, field 2. 127:126 = 1: L = 9, else 13, field 2 (P6).
-- Otherwise 13, field 1
unfoldable pub count_rule : ℕ → Told
count_rule csd =
    cond (eqb (bits csd 127 126) 0)
    (cond (leb 9 (bits csd 83 80) && leb (bits csd 83 80) 11)
    (told 0 (((bits csd 73 62 + 1) * 2 ^ (bits csd 49 47 + 2 + (bits csd 83 80 - 9))) ∷ [])) (told 13 (2 ∷ [])))
    (cond (eqb (bits csd 127 126) 1)
    (cond (eqb (bits csd 83 80) 9) (told 0 (((bits csd 69 48 + 1) * 1024) ∷ [])) (told 13 (2 ∷ []))) (told 13 (1 ∷ [])))

-- Rate: bits a second. Bit 7 set: 13, field 5. Low three bits over 3: 13, field 3. Bits 6:3 zero: 13, field 4. Else unit
-- divided by 10, times the value
unfoldable pub rate_rule : ℕ → Told
rate_rule byte =
    cond (bit byte 7) (told 13 (5 ∷ []))
    (cond (ltb 3 (bits byte 2 0)) (told 13 (3 ∷ []))
    (cond (eqb (bits byte 6 3) 0) (told 13 (4 ∷ []))
    (told 0 ((get_or rate_units (bits byte 2 0) 0 / 10 * get_or rate_tenths (bits byte 6 3) 0) ∷ []))))

-- Address: the argument of the read command. 0 blocks or over 511: 19. Index plus count over the block count: 20. Then SDSC
-- 512 * index, SDHC the index. A product over 32 bits: 20
unfoldable pub units_rule : CardCapacity → ℕ → Told
units_rule SDSC index = cond (ltb (512 * index) (2 ^ 32)) (told 0 ((512 * index) ∷ [])) (told 20 [])
units_rule SDHC index = told 0 (index ∷ [])

unfoldable pub address_rule : CardCapacity → ℕ → ℕ → ℕ → Told
address_rule class blocks index count =
    cond (eqb count 0 || ltb 511 count) (told 19 []) (cond (ltb blocks (index + count)) (told 20 []) (units_rule class index))

-- Size: bytes. A count over 4,294,967,296: 20
unfoldable pub size_rule : ℕ → Told
size_rule count = cond (ltb 4_294_967_296 count) (told 20 []) (told 0 ((512 * count) ∷ []))

-- Order at making: any of the four numeric settings 0: 18. Source 0, source 1 or source over 102,800,000: 17
unfoldable pub made_rule : ℕ → Config → Told
made_rule source config =
    cond
    (eqb config.poll_limit 0 || eqb config.card_ready_attempts 0 || eqb config.data_transfer_timeout 0 || eqb config.software_timeout_ms 0)
    (told 18 [])
    (cond (ltb source 2 || ltb 102_800_000 source) (told 17 []) (told 0 []))
