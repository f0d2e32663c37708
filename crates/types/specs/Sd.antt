-- The SD Physical Layer Simplified Specification: the fields of its registers by bit position, and what they mean. That
-- document 01's arithmetic agrees with these is proved in proofs/Agree.antt.
use Rattle.std.specs.Prelude.{ℕ, ◌+◌, ◌*◌, ◌/◌, ◌^◌, Bool, true, false, cond, ◌&&◌, List, [], ◌∷◌, ◌≡◌, eqb, get_or, Result, Ok, Err}
use Rattle.types.specs.declared.error.Error.{Error}
use Rattle.types.specs.declared.card.Card.{Card}
use Rattle.types.specs.declared.card.CardCapacity.{CardCapacity}
use Rattle.types.specs.declared.card.CardCapacity.TheVariants.{SDSC, SDHC}
use Rattle.types.specs.declared.error.Error.TheVariants.{UnsupportedCardType}
use Rattle.types.specs.declared.error.Field.{Field}
use Rattle.types.specs.declared.error.Field.TheVariants.{CsdVersion, BlockLength, RateUnit, RateValue, RateReservedBit, CsdAndOcr, Voltage, AppCommand}
use Rattle.types.specs.declared.register.Wide.{Wide}
use Rattle.types.specs.Bits.{bits, bit}

-- the 128-bit register of two halves, the first word on top
abbrev pub wide_of : Wide → ℕ
wide_of w = w.high * 2 ^ 64 + w.low

-- Codes. SD lists those of a field from 0 on: what each stands for, or that it is reserved.
pub data Code (A : Type 0) : Type 0 where
  reserved : Code A
  means : A → Code A

abbrev pub code_in : {A : Type 0} → List (Code A) → ℕ → Code A
code_in codes k = get_or codes k reserved

unfoldable pub is_reserved : {A : Type 0} → Code A → Bool
is_reserved reserved = true
is_reserved (means a) = false

-- CSD. CSD_STRUCTURE: version 1.0, version 2.0, two reserved
pub data Version : Type 0 where
  version1 : Version
  version2 : Version

abbrev pub csd_structure : ℕ → ℕ
csd_structure csd = bits csd 127 126

abbrev pub structures : List (Code Version)
structures = means version1 ∷ means version2 ∷ reserved ∷ reserved ∷ []

-- READ_BL_LEN, by the version. In 1.0: 0 to 8 reserved, 512, 1024 and 2048 bytes, 12 to 15 reserved. In 2.0 it is fixed at 9, 512
-- bytes
abbrev pub read_bl_len : ℕ → ℕ
read_bl_len csd = bits csd 83 80

abbrev pub block_lengths : Version → List (Code ℕ)
block_lengths version1 =
    reserved ∷ reserved ∷ reserved ∷ reserved ∷ reserved ∷ reserved ∷ reserved ∷ reserved
    ∷ reserved ∷ means 512 ∷ means 1024 ∷ means 2048 ∷ reserved ∷ reserved ∷ reserved ∷ reserved ∷ []
block_lengths version2 =
    reserved ∷ reserved ∷ reserved ∷ reserved ∷ reserved ∷ reserved ∷ reserved ∷ reserved
    ∷ reserved ∷ means 512 ∷ reserved ∷ reserved ∷ reserved ∷ reserved ∷ reserved ∷ reserved ∷ []

-- CSD version 1.0. memory capacity = BLOCKNR * BLOCK_LEN bytes, where BLOCKNR = (C_SIZE + 1) * MULT, MULT = 2 ^ (C_SIZE_MULT + 2)
abbrev pub c_size1 : ℕ → ℕ
c_size1 csd = bits csd 73 62

abbrev pub c_size_mult : ℕ → ℕ
c_size_mult csd = bits csd 49 47

unfoldable pub bytes1 : ℕ → ℕ → ℕ
bytes1 csd block_len = (c_size1 csd + 1) * 2 ^ (c_size_mult csd + 2) * block_len

-- CSD version 2.0. memory capacity = (C_SIZE + 1) * 512 KByte
abbrev pub c_size2 : ℕ → ℕ
c_size2 csd = bits csd 69 48

unfoldable pub bytes2 : ℕ → ℕ
bytes2 csd = (c_size2 csd + 1) * (512 * 1024)

-- THE CAPACITY in bytes: SD has none where the code of the version or of the block length is reserved
unfoldable pub bytes_by : ℕ → Version → Code ℕ → Code ℕ
bytes_by csd version reserved = reserved
bytes_by csd version1 (means block_len) = means (bytes1 csd block_len)
bytes_by csd version2 (means block_len) = means (bytes2 csd)

unfoldable pub capacity_by : ℕ → Code Version → Code ℕ
capacity_by csd reserved = reserved
capacity_by csd (means version) = bytes_by csd version (code_in (block_lengths version) (read_bl_len csd))

unfoldable pub sd_capacity : ℕ → Code ℕ
sd_capacity csd = capacity_by csd (code_in structures (csd_structure csd))

-- a record counts what SD has for the CSD in it: so many blocks of 512 bytes
abbrev pub Counts : Card → Type 0
Counts card = sd_capacity (wide_of card.csd) ≡ means (card.block_count.0 * 512)

-- PERM_WRITE_PROTECT and TMP_WRITE_PROTECT, in both versions: the card is protected against writing, for good or for the time being
abbrev pub perm_write_protect : ℕ → Bool
perm_write_protect csd = bit csd 13

abbrev pub tmp_write_protect : ℕ → Bool
tmp_write_protect csd = bit csd 12

-- a record's two flags are those of the CSD in it
pub record Protects (card : Card) : Type 0 where
  pub permanent : card.protection.permanent ≡ perm_write_protect (wide_of card.csd)
  pub temporary : card.protection.temporary ≡ tmp_write_protect (wide_of card.csd)

-- TRAN_SPEED, in both versions: the unit in bits 2:0, the time value in bits 6:3, bit 7 reserved
abbrev pub tran_speed : ℕ → ℕ
tran_speed csd = bits csd 103 96

-- in kilobits a second: 100 kbit/s, 1 Mbit/s, 10 Mbit/s, 100 Mbit/s, four reserved
abbrev pub transfer_units : List (Code ℕ)
transfer_units = means 100 ∷ means 1_000 ∷ means 10_000 ∷ means 100_000 ∷ reserved ∷ reserved ∷ reserved ∷ reserved ∷ []

-- in tenths: reserved, 1.0, 1.2, 1.3, 1.5, 2.0, 2.5, 3.0, 3.5, 4.0, 4.5, 5.0, 5.5, 6.0, 7.0, 8.0
abbrev pub time_values : List (Code ℕ)
time_values =
    reserved ∷ means 10 ∷ means 12 ∷ means 13 ∷ means 15 ∷ means 20 ∷ means 25 ∷ means 30
    ∷ means 35 ∷ means 40 ∷ means 45 ∷ means 50 ∷ means 55 ∷ means 60 ∷ means 70 ∷ means 80 ∷ []

-- the rate in bits a second: unit times time value, 1,000 bits a kilobit; of several fields at fault the first is told:
-- reserved bit, unit, time value
unfoldable pub rate_by : Code ℕ → Code ℕ → Result ℕ Error
rate_by reserved value = Err (UnsupportedCardType RateUnit)
rate_by (means kilobits) reserved = Err (UnsupportedCardType RateValue)
rate_by (means kilobits) (means tenths) = Ok (kilobits * 1_000 * tenths / 10)

unfoldable pub sd_rate : ℕ → Result ℕ Error
sd_rate byte =
    cond (bit byte 7) (Err (UnsupportedCardType RateReservedBit))
    (rate_by (code_in transfer_units (bits byte 2 0)) (code_in time_values (bits byte 6 3)))

-- Which fields of a CSD are at fault: the code of one is reserved, or the reserved bit is set. READ_BL_LEN is that of its version;
-- three of P4's fields are none of a CSD
unfoldable pub length_fault : ℕ → Code Version → Bool
length_fault csd reserved = false
length_fault csd (means version) = is_reserved (code_in (block_lengths version) (read_bl_len csd))

unfoldable pub at_fault : Field → ℕ → Bool
at_fault CsdVersion csd = is_reserved (code_in structures (csd_structure csd))
at_fault BlockLength csd = length_fault csd (code_in structures (csd_structure csd))
at_fault RateUnit csd = is_reserved (code_in transfer_units (bits (tran_speed csd) 2 0))
at_fault RateValue csd = is_reserved (code_in time_values (bits (tran_speed csd) 6 3))
at_fault RateReservedBit csd = bit (tran_speed csd) 7
at_fault CsdAndOcr csd = false
at_fault Voltage csd = false
at_fault AppCommand csd = false

-- why a card has no capacity: the version is looked at first, since the block length goes by it
abbrev pub first_fault : ℕ → Field
first_fault csd = cond (at_fault CsdVersion csd) CsdVersion BlockLength

-- the argument of a read counts bytes on a standard capacity card, blocks of 512 bytes on all others
abbrev pub unit_bytes : CardCapacity → ℕ
unit_bytes SDSC = 1
unit_bytes SDHC = 512

-- SCR: SD_SPEC in bits 59:56; of SD_BUS_WIDTHS bit 48 says one line, bit 50 four
abbrev pub sd_spec : ℕ → ℕ
sd_spec scr = bits scr 59 56

abbrev pub one_line : ℕ → Bool
one_line scr = bit scr 48

abbrev pub four_lines : ℕ → Bool
four_lines scr = bit scr 50

-- Card status. READY_FOR_DATA is bit 8, CURRENT_STATE bits 12:9, of which 4 is the transfer state
abbrev pub ready_of : ℕ → Bool
ready_of status = bit status 8 && eqb (bits status 12 9) 4

-- the places of the error bits: OUT_OF_RANGE, ADDRESS_ERROR, BLOCK_LEN_ERROR, ERASE_SEQ_ERROR, ERASE_PARAM, WP_VIOLATION;
-- LOCK_UNLOCK_FAILED, COM_CRC_ERROR, ILLEGAL_COMMAND, CARD_ECC_FAILED, CC_ERROR, ERROR, two reserved ones, CSD_OVERWRITE,
-- WP_ERASE_SKIP, CARD_ECC_DISABLED, ERASE_RESET; AKE_SEQ_ERROR
abbrev pub error_places : List ℕ
error_places = 31 ∷ 30 ∷ 29 ∷ 28 ∷ 27 ∷ 26 ∷ 24 ∷ 23 ∷ 22 ∷ 21 ∷ 20 ∷ 19 ∷ 18 ∷ 17 ∷ 16 ∷ 15 ∷ 14 ∷ 13 ∷ 3 ∷ []

-- CARD_IS_LOCKED; APP_CMD
abbrev pub locked_places : List ℕ
locked_places = 25 ∷ []

abbrev pub app_places : List ℕ
app_places = 5 ∷ []

-- the status in an R6 has COM_CRC_ERROR, ILLEGAL_COMMAND and ERROR in its bits 15 to 13
abbrev pub short_error_places : List ℕ
short_error_places = 15 ∷ 14 ∷ 13 ∷ []
