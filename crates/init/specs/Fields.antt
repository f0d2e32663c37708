-- What a 13 says of a card, by its field (P4): which command was sent last, and what the card had answered. Told by what a call
-- leaves, the rows that it wrote and the words that it took, so that it can be held to a trace.
use Rattle.std.specs.Prelude.{ℕ, ◌+◌, ◌≤◌, Bool, true, false, List, ◌≡◌, eqb, get_or}
use Rattle.types.specs.declared.error.Field.{Field}
use Rattle.types.specs.declared.error.Field.TheVariants.{CsdVersion, BlockLength, RateUnit, RateValue, RateReservedBit, CsdAndOcr, Voltage, AppCommand}
use Rattle.types.specs.Bits.{clear}
use Rattle.types.specs.Sd.{wide_of, csd_structure, at_fault}
use Rattle.types.specs.Words.{halves_of}
use Rattle.bus.specs.Sent.{answer_at}
use Rattle.init.specs.Initialise.{powered_up, high_capacity, same}

-- the command after which a card is refused with a field: the CSD is judged after CMD9, its rate after ACMD6, the last before
-- the clock is set
unfoldable pub command_of : Field → ℕ
command_of CsdVersion = 9
command_of BlockLength = 9
command_of RateUnit = 6
command_of RateValue = 6
command_of RateReservedBit = 6
command_of CsdAndOcr = 9
command_of Voltage = 41
command_of AppCommand = 55

-- whether it is refused for that command's own answer; a rate stands in the CSD, which came earlier
unfoldable pub own_answer : Field → Bool
own_answer CsdVersion = true
own_answer BlockLength = true
own_answer RateUnit = false
own_answer RateValue = false
own_answer RateReservedBit = false
own_answer CsdAndOcr = true
own_answer Voltage = true
own_answer AppCommand = true

-- the CSD in the answer at place k of the script
abbrev pub csd_at : List ℕ → ℕ → ℕ
csd_at s k = wide_of (halves_of (answer_at s k))

-- an OCR that was taken before it, of a card that had powered up: whether it agrees with the CSD about high capacity
abbrev pub OcrSays : List ℕ → ℕ → Bool → Type 0
OcrSays s k agrees =
    (j : ℕ) × ((j + 4 ≤ k) × ((powered_up (get_or s j 0) ≡ true) × (same (high_capacity (get_or s j 0)) (eqb (csd_structure (csd_at s k)) 1) ≡ agrees)))

-- what that answer says: SD's fault in the CSD, whose version and block length are looked at where an OCR agrees with it; an OCR
-- that does not; no bit of the voltages, 0x00300000; no bit 5, APP_CMD
unfoldable pub Says : List ℕ → ℕ → Field → Type 0
Says s k CsdVersion = (at_fault CsdVersion (csd_at s k) ≡ true) × OcrSays s k true
Says s k BlockLength = (at_fault BlockLength (csd_at s k) ≡ true) × OcrSays s k true
Says s k RateUnit = at_fault RateUnit (csd_at s k) ≡ true
Says s k RateValue = at_fault RateValue (csd_at s k) ≡ true
Says s k RateReservedBit = at_fault RateReservedBit (csd_at s k) ≡ true
Says s k CsdAndOcr = OcrSays s k false
Says s k Voltage = clear 0x0030_0000 (get_or s k 0) ≡ true
Says s k AppCommand = clear 0x20 (get_or s k 0) ≡ true

-- THE FIELD of a step that refused: with so many words of the script taken, and this command sent last
pub record Blames (s : List ℕ) (taken command : ℕ) (field : Field) : Type 0 where
  pub sent : command ≡ command_of field
  pub place : ℕ
  pub within : place + 4 ≤ taken
  pub last : own_answer field ≡ true → taken ≡ place + 4
  pub says : Says s place field
