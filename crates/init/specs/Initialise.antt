-- Initialisation, as a plan: the Rust's `blocking_init_card` with `begin_init`, `power_up`, `identify`, `set_width` and
-- `set_clock`. It takes the settings and the asked frequency alone: nothing of an earlier card can reach it.
use Rattle.std.specs.Prelude.{ℕ, ◌+◌, ◌*◌, ◌/◌, ◌%◌, ◌^◌, min, Bool, true, false, cond, not, ◌&&◌, ◌||◌, List, eqb, ltb, get_or, replicate, Result, Ok, Err}
use Rattle.std.specs.Int.Bits.{bit_and}
use Rattle.types.specs.declared.card.Card.{Card}
use Rattle.types.specs.declared.card.CardCapacity.{CardCapacity}
use Rattle.types.specs.declared.card.CardCapacity.TheVariants.{SDSC, SDHC}
use Rattle.types.specs.declared.card.Signalling.TheVariants.{SDR25}
use Rattle.types.specs.declared.clock.Clock.{Clock}
use Rattle.types.specs.declared.error.Error.{Error}
use Rattle.types.specs.declared.error.Error.TheVariants as E
use Rattle.types.specs.declared.error.Field.TheVariants.{CsdAndOcr, Voltage}
use Rattle.types.specs.declared.register.BlockCount.{BlockCount}
use Rattle.types.specs.declared.status.Scr.{Scr}
use Rattle.types.specs.Bits.{bits, clear}
use Rattle.types.specs.Leaf.{clock_of, count_of, rate_of, protection_of}
use Rattle.types.specs.Sd.{wide_of, tran_speed, sd_spec, one_line, four_lines}
use Rattle.types.specs.Words.{bytes_of, halves_of, scr_of}
use Rattle.tape.specs.declared.progress.Halt.{Halt}
use Rattle.tape.specs.Run.{seen_as}
use Rattle.tape.specs.Plan.{Nothing, Cause, failed, ended, Plan, give, refuse, look, handle, ◌then◌, guard, fail, ensure, until}
use Rattle.tape.specs.Rows.{POWER}
use Rattle.tape.specs.Steps.{row, hold_gated, hold_clock, hold_signalling, reset_controller, set_clken}
use Rattle.bus.specs.declared.response.Response.TheVariants.{None, R1, R2, R3, R6, R7}
use Rattle.bus.specs.declared.transfer.Transfer.{Transfer}
use Rattle.bus.specs.Clock.{configure_clock, clock_delay}
use Rattle.bus.specs.Command.{first_of, command, app_command}
use Rattle.bus.specs.Ready.{retry_delay, wait_ready}
use Rattle.bus.specs.Transfer.{incoming, blocking_data}
use Rattle.init.specs.declared.settings.Settings.{Settings}

-- the poll limit of the settings
abbrev pub limit_of : Settings → ℕ
limit_of set = set.config.poll_limit

abbrev pub source_of : Settings → ℕ
source_of set = set.source.0

-- CMD8. Only Timeout, or an answer whose 0xfdffe008 bits equal 0x00400000, means a version 1 card
unfoldable pub version : ℕ → Plan Bool
version w =
    cond (eqb w 0x1aa) (give true)
    (ensure (eqb (bit_and w 0xfdff_e008) 0x0040_0000) E.UnsupportedCardVersion then λ _. give false)

unfoldable pub timed_out : Error → Bool
timed_out E.Timeout = true
timed_out E.SoftwareTimeout = false
timed_out E.Crc = false
timed_out E.StBitErr = false
timed_out E.Overrun = false
timed_out E.Underrun = false
timed_out E.Dma = false
timed_out E.IncompleteTransfer = false
timed_out E.ResponseMismatch = false
timed_out (E.CardStatus word) = false
timed_out E.CardLocked = false
timed_out E.UnsupportedCardVersion = false
timed_out (E.UnsupportedCardType field) = false
timed_out E.UnsupportedBusWidth = false
timed_out E.SignalingSwitchFailed = false
timed_out E.NoCard = false
timed_out E.BadClock = false
timed_out E.InvalidConfig = false
timed_out E.InvalidBufferLength = false
timed_out E.AddressOutOfRange = false
timed_out E.WriteProtected = false

unfoldable pub late : Cause → Plan Bool
late (failed e) = cond (timed_out e) (give false) (fail e)
late ended = refuse ended

unfoldable pub card_version : ℕ → Plan Bool
card_version limit = handle (λ ws. version (first_of ws)) late (command limit 8 0x1aa R7)

-- reset rows, the initial clock, power, the clock on for 80 cycles
unfoldable pub power_on : Settings → Clock → Plan Nothing
power_on set initial =
    reset_controller
    then λ _. configure_clock (limit_of set) initial false false
    then λ _. row POWER 3
    then λ _. set_clken true
    then λ _. clock_delay (source_of set) initial.frequency.0 80

-- CMD0, CMD8: whether the card is of version 2
unfoldable pub begin_init : Settings → Clock → Plan Bool
begin_init set initial =
    power_on set initial
    then λ _. command (limit_of set) 0 0 None
    then λ _. card_version (limit_of set)

-- ACMD41, with the high capacity bit for a card of version 2; no voltage in common gives 13, field 7
unfoldable pub power_up : ℕ → Bool → Plan ℕ
power_up limit version2 =
    app_command limit 0
    then λ _. command limit 41 (0x0030_0000 + cond version2 0x4000_0000 0) R3
    then λ ws. ensure (not (clear 0x0030_0000 (first_of ws))) (E.UnsupportedCardType Voltage)
    then λ _. give (first_of ws)

-- bit 31: the card has powered up
abbrev pub powered_up : ℕ → Bool
powered_up ocr = not (clear 0x8000_0000 ocr)

unfoldable pub try_power_up : Settings → Bool → Plan ℕ
try_power_up set version2 =
    power_up (limit_of set) version2
    then λ ocr. cond (powered_up ocr) (give ocr) (retry_delay (source_of set) then λ _. give ocr)

unfoldable pub wait_power_up : Settings → Bool → Plan ℕ
wait_power_up set version2 = until set.config.card_ready_attempts powered_up (try_power_up set version2)

-- OCR bit 30: high capacity
abbrev pub high_capacity : ℕ → Bool
high_capacity ocr = not (clear 0x4000_0000 ocr)

abbrev pub class_of : Bool → CardCapacity
class_of high = cond high SDHC SDSC

abbrev pub same : Bool → Bool → Bool
same a b = cond a b (not b)

-- the record before a card is known, and where there is none
abbrev pub no_card : Card
no_card =
    record {
      card_type = SDSC;
      ocr = 0;
      rca = 0;
      cid = record { high = 0; low = 0 };
      csd = record { high = 0; low = 0 };
      scr = record { 0 = 0 };
      status = replicate 16 0;
      block_count = record { 0 = 0 };
      protection = record { permanent = false; temporary = false };
    }

-- what a card says of itself: its OCR, address, CID, CSD and blocks, and by its CSD whether it is protected against writing
abbrev pub card_of : ℕ → ℕ → List ℕ → List ℕ → BlockCount → Card
card_of ocr rca cid csd blocks =
    record {
      card_type = class_of (high_capacity ocr);
      ocr = ocr;
      rca = rca;
      cid = halves_of cid;
      csd = halves_of csd;
      scr = record { 0 = 0 };
      status = replicate 16 0;
      block_count = blocks;
      protection = protection_of (wide_of (halves_of csd));
    }

abbrev pub no_blocks : BlockCount
no_blocks = record { 0 = 0 }

abbrev pub counted : Result BlockCount Error → Plan BlockCount
counted (Ok n) = give n
counted (Err e) = fail e

-- CSD and OCR disagreeing gives 13, field 6; the capacity; CMD7
unfoldable pub select : ℕ → ℕ → ℕ → List ℕ → List ℕ → Plan Card
select limit ocr rca cid csd =
    ensure (same (high_capacity ocr) (eqb (bits (wide_of (halves_of csd)) 127 126) 1)) (E.UnsupportedCardType CsdAndOcr)
    then λ _. counted (count_of (wide_of (halves_of csd)))
    then λ blocks. command limit 7 (rca * 2 ^ 16) R1
    then λ _. give (card_of ocr rca cid csd blocks)

-- CMD2, CMD3 (an address of 0 gives 9), CMD9
unfoldable pub publish : ℕ → Plan ℕ
publish limit = command limit 3 0 R6 then λ ws. give (first_of ws / 2 ^ 16)

unfoldable pub identify : ℕ → ℕ → Plan Card
identify limit ocr =
    command limit 2 0 R2
    then λ cid. publish limit
    then λ rca. ensure (not (eqb rca 0)) E.ResponseMismatch
    then λ _. command limit 9 (rca * 2 ^ 16) R2
    then λ csd. select limit ocr rca cid csd

-- ready wait, CMD16 on a standard capacity card, CMD55, the data phase of CMD51: the SCR
unfoldable pub block_length : ℕ → CardCapacity → Plan Nothing
block_length limit SDSC = command limit 16 512 R1 then λ _. give tt
block_length limit SDHC = give tt

abbrev pub scr_transfer : Transfer
scr_transfer = record { index = 51; argument = 0; block_size = 3; words = 2 }

unfoldable pub read_scr : Settings → Card → Plan ℕ
read_scr set card =
    wait_ready (source_of set) set.config card.rca
    then λ _. block_length (limit_of set) card.card_type
    then λ _. app_command (limit_of set) card.rca
    then λ _. blocking_data (source_of set) set.config incoming scr_transfer card.rca
    then λ ws. give (scr_of (get_or ws 0 0) (get_or ws 1 0))

-- an SCR as the number that it is
abbrev pub scr_in : Result Scr Halt → Result ℕ Halt
scr_in r = seen_as (λ (scr : Scr). scr.0) r

-- ACMD6; a card without one line, or without four where four are connected, gives 14
unfoldable pub set_width : Settings → ℕ → ℕ → Plan Nothing
set_width set rca scr =
    ensure (one_line scr && (not set.wide || four_lines scr)) E.UnsupportedBusWidth
    then λ _. app_command (limit_of set) rca
    then λ _. command (limit_of set) 6 (cond set.wide 2 0) R1
    then λ _. give tt

abbrev pub no_clock : Clock
no_clock = record { divisor = 0; bypass = false; frequency = record { 0 = 0 } }

abbrev pub clocked : Result Clock Error → Plan Clock
clocked (Ok c) = give c
clocked (Err e) = fail e

-- the clock from here on, gated
unfoldable pub set_clock : Settings → ℕ → Plan Nothing
set_clock set requested =
    clocked (clock_of (source_of set) requested set.config.allow_clock_bypass)
    then λ clock. configure_clock (limit_of set) clock set.wide false
    then λ _. hold_clock clock.frequency
    then λ _. hold_gated true

abbrev pub rated : Result ℕ Error → Plan ℕ
rated (Ok n) = give n
rated (Err e) = fail e

-- the least of the asked frequency, 25,000,000 and the card's rate
unfoldable pub transfer_clock : Settings → ℕ → ℕ → Plan Nothing
transfer_clock set frequency encoded = rated (rate_of encoded) then λ rate. set_clock set (min (min frequency 25_000_000) rate)

-- CMD6: its 16 words of status, and byte k of them in the order sent
abbrev pub switch_transfer : ℕ → Transfer
switch_transfer argument = record { index = 6; argument = argument; block_size = 6; words = 16 }

abbrev pub status_byte : List ℕ → ℕ → ℕ
status_byte ws k = get_or (bytes_of ws) k 0

-- bit 1 of byte 13: the card has SDR25; bit 1 of byte 29: it is busy with it
abbrev pub offered : List ℕ → Bool
offered ws = not (clear 2 (status_byte ws 13)) && clear 2 (status_byte ws 29)

-- the low half of byte 16: what was switched to
abbrev pub switched : List ℕ → Bool
switched ws = eqb (status_byte ws 16 % 16) 1

-- the switch itself, 8 cycles of the clock just set, and a clock of up to 50,000,000
unfoldable pub take_switch : Settings → ℕ → ℕ → Plan Nothing
take_switch set frequency rca =
    blocking_data (source_of set) set.config incoming (switch_transfer 0x80ff_fff1) rca
    then λ ws. ensure (switched ws) E.SignalingSwitchFailed
    then λ _. look (λ line. clock_delay (source_of set) line.clock.0 8)
    then λ _. set_clock set (min frequency 50_000_000)
    then λ _. hold_signalling SDR25

-- whether the card has SDR25, and the switch
unfoldable pub ask_switch : Settings → ℕ → ℕ → Plan Nothing
ask_switch set frequency rca =
    blocking_data (source_of set) set.config incoming (switch_transfer 0x00ff_fff1) rca
    then λ ws. cond (offered ws) (take_switch set frequency rca) (give tt)

-- above 25,000,000, on a card of SD_SPEC 1 or later
unfoldable pub switch_speed : Settings → ℕ → ℕ → ℕ → Plan Nothing
switch_speed set frequency rca scr =
    cond (ltb 25_000_000 frequency && not (eqb (sd_spec scr) 0)) (ask_switch set frequency rca) (give tt)

abbrev pub with_scr : Card → ℕ → Card
with_scr card scr =
    record {
      card_type = card.card_type;
      ocr = card.ocr;
      rca = card.rca;
      cid = card.cid;
      csd = card.csd;
      scr = record { 0 = scr };
      status = card.status;
      block_count = card.block_count;
      protection = card.protection;
    }

-- what follows identification
unfoldable pub settle_card : Settings → ℕ → Card → Plan Card
settle_card set frequency card =
    read_scr set card
    then λ scr. set_width set card.rca scr
    then λ _. transfer_clock set frequency (tran_speed (wide_of card.csd))
    then λ _. switch_speed set frequency card.rca scr
    then λ _. give (with_scr card scr)

unfoldable pub init_card : Settings → Clock → ℕ → Plan Card
init_card set initial frequency =
    begin_init set initial
    then λ version2. wait_power_up set version2
    then λ ocr. identify (limit_of set) ocr
    then λ card. settle_card set frequency card

-- any refusal of it: reset rows
unfoldable pub initialise : Settings → Clock → ℕ → Plan Card
initialise set initial frequency = guard reset_controller (init_card set initial frequency)
