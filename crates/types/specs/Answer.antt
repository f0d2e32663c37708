-- Document 01, 'Numbers of the answers', with P4 and P8 of document 02: each answer's number, and the values that it carries.
use Rattle.std.specs.Prelude.{ℕ, Bool, true, false, List, [], ◌∷◌, get_or, Result, Ok, Err}
use Rattle.types.specs.declared.clock.Clock.{Clock}
use Rattle.types.specs.declared.register.BlockCount.{BlockCount}
use Rattle.types.specs.declared.error.Error.{Error}
use Rattle.types.specs.declared.error.Error.TheVariants as E
use Rattle.types.specs.declared.error.Field.{Field}
use Rattle.types.specs.declared.error.Field.TheVariants as F
use Rattle.types.specs.declared.error.Answer.{Answer}
use Rattle.types.specs.declared.error.Answer.TheVariants.{Accepted, Refused, ScriptEnded, TraceFull, BadBook}

-- an answer as document 01 tells it
pub record Told : Type 0 where
  pub number : ℕ
  pub values : List ℕ

abbrev pub told : ℕ → List ℕ → Told
told n vs = record { number = n; values = vs }

-- the one value of an answer that carries one, 0 where it carries none
abbrev pub carried : Told → ℕ
carried t = get_or t.values 0 0

-- Document 02, P4: the field that made a card unsupported, 1 to 8 in its order
unfoldable pub field_number : Field → ℕ
field_number F.CsdVersion = 1
field_number F.BlockLength = 2
field_number F.RateUnit = 3
field_number F.RateValue = 4
field_number F.RateReservedBit = 5
field_number F.CsdAndOcr = 6
field_number F.Voltage = 7
field_number F.AppCommand = 8

unfoldable pub error_told : Error → Told
error_told E.Timeout = told 1 []
error_told E.SoftwareTimeout = told 2 []
error_told E.Crc = told 3 []
error_told E.StBitErr = told 4 []
error_told E.Overrun = told 5 []
error_told E.Underrun = told 6 []
error_told E.Dma = told 7 []
error_told E.IncompleteTransfer = told 8 []
error_told E.ResponseMismatch = told 9 []
error_told (E.CardStatus word) = told 10 (word ∷ [])
error_told E.CardLocked = told 11 []
error_told E.UnsupportedCardVersion = told 12 []
error_told (E.UnsupportedCardType field) = told 13 (field_number field ∷ [])
error_told E.UnsupportedBusWidth = told 14 []
error_told E.SignalingSwitchFailed = told 15 []
error_told E.NoCard = told 16 []
error_told E.BadClock = told 17 []
error_told E.InvalidConfig = told 18 []
error_told E.InvalidBufferLength = told 19 []
error_told E.AddressOutOfRange = told 20 []
error_told E.WriteProtected = told 26 []

-- a call's answer; the last three are added by document 01
unfoldable pub answer_told : Answer → Told
answer_told Accepted = told 0 []
answer_told (Refused e) = error_told e
answer_told ScriptEnded = told 21 []
answer_told TraceFull = told 22 []
answer_told BadBook = told 23 []

-- The answers of the plain functions.

abbrev pub flag : Bool → ℕ
flag true = 1
flag false = 0

-- divisor field, bypass, frequency in hertz
unfoldable pub clock_told : Result Clock Error → Told
clock_told (Ok c) = told 0 (c.divisor ∷ flag c.bypass ∷ c.frequency.0 ∷ [])
clock_told (Err e) = error_told e

-- blocks of 512 bytes
unfoldable pub count_told : Result BlockCount Error → Told
count_told (Ok n) = told 0 (n.0 ∷ [])
count_told (Err e) = error_told e

-- bytes
unfoldable pub size_told : Result ℕ Error → Told
size_told (Ok n) = told 0 (n ∷ [])
size_told (Err e) = error_told e

-- bits a second
unfoldable pub rate_told : Result ℕ Error → Told
rate_told (Ok n) = told 0 (n ∷ [])
rate_told (Err e) = error_told e

-- the argument of the read command
unfoldable pub address_told : Result ℕ Error → Told
address_told (Ok a) = told 0 (a ∷ [])
address_told (Err e) = error_told e

unfoldable pub config_told : Result (Unit {0}) Error → Told
config_told (Ok tt) = told 0 []
config_told (Err e) = error_told e

unfoldable pub data_told : Result (Unit {0}) Error → Told
data_told (Ok tt) = told 0 []
data_told (Err e) = error_told e
