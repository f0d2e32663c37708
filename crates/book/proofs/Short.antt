-- How long what is told of an answer can be: its number has two digits at most, its field one, and so the number of a protection.
use Prim.Native.Nat.{ℕ, ◌+◌, ◌*◌, ◌≤◌}
use mathlib.Core.Bool.{Bool, true, false, cond, ◌&&◌}
use mathlib.Core.List.{[], ◌++◌}
use native.Mathlib.Omega.{arith}
use lib.Dec.{eqb}
use lib.ListN.{length, length-append}
use Rattle.types.specs.declared.error.Answer.{Answer}
use Rattle.types.specs.declared.error.Answer.TheVariants as Answered
use Rattle.types.specs.declared.error.Error.{Error}
use Rattle.types.specs.declared.error.Error.TheVariants as E
use Rattle.types.specs.declared.error.Field.{Field}
use Rattle.types.specs.declared.register.Protection.{Protection}
use Rattle.types.specs.Answer.{field_number, error_told, answer_told, flag}
use Rattle.types.specs.Leaf.{protect_number}
use Rattle.types.proofs.Bounds.{field_most}
use Rattle.text.specs.Digits.{decimal_in, decimal_of}
use Rattle.text.proofs.Decimal.{digits-at-most}
use Rattle.text.specs.Typed.{typed}
use Rattle.book.specs.Lines.{answer_text, protect_text}

field_short : (field : Field) → length (answer_text (Answered.Refused (E.UnsupportedCardType field))) ≤ 18
unfolding error_told answer_told
field_short field =
    rw (length-append, length-append, length-append)
    (omega (arith, digits-at-most 1 13 (omega arith), digits-at-most 0 (field_number field) (omega (arith, (field_most field).1))))

error-short : (e : Error) → ((error_told e).number ≤ 26) × (length (answer_text (Answered.Refused e)) ≤ 18)
unfolding error_told answer_told decimal_in decimal_of
error-short E.Timeout = (omega arith, omega arith)
error-short E.SoftwareTimeout = (omega arith, omega arith)
error-short E.Crc = (omega arith, omega arith)
error-short E.StBitErr = (omega arith, omega arith)
error-short E.Overrun = (omega arith, omega arith)
error-short E.Underrun = (omega arith, omega arith)
error-short E.Dma = (omega arith, omega arith)
error-short E.IncompleteTransfer = (omega arith, omega arith)
error-short E.ResponseMismatch = (omega arith, omega arith)
error-short (E.CardStatus word) = (omega arith, omega arith)
error-short E.CardLocked = (omega arith, omega arith)
error-short E.UnsupportedCardVersion = (omega arith, omega arith)
error-short (E.UnsupportedCardType field) = (omega arith, field_short field)
error-short E.UnsupportedBusWidth = (omega arith, omega arith)
error-short E.SignalingSwitchFailed = (omega arith, omega arith)
error-short E.NoCard = (omega arith, omega arith)
error-short E.BadClock = (omega arith, omega arith)
error-short E.InvalidConfig = (omega arith, omega arith)
error-short E.InvalidBufferLength = (omega arith, omega arith)
error-short E.AddressOutOfRange = (omega arith, omega arith)
error-short E.WriteProtected = (omega arith, omega arith)

pub answer-number : (a : Answer) → (answer_told a).number ≤ 26
unfolding answer_told
answer-number Answered.Accepted = omega arith
answer-number (Answered.Refused e) = omega (arith, (error-short e).0)
answer-number Answered.ScriptEnded = omega arith
answer-number Answered.TraceFull = omega arith
answer-number Answered.BadBook = omega arith

pub answer-short : (a : Answer) → length (answer_text a) ≤ 18
unfolding answer_told decimal_in decimal_of
answer-short Answered.Accepted = omega arith
answer-short (Answered.Refused e) = (error-short e).1
answer-short Answered.ScriptEnded = omega arith
answer-short Answered.TraceFull = omega arith
answer-short Answered.BadBook = omega arith

pub protect-most : (p : Protection) → protect_number p ≤ 3
protect-most p = by p.permanent p.temporary
  where
    by : (permanent temporary : Bool) → 2 * flag permanent + flag temporary ≤ 3
    by true true = omega arith
    by true false = omega arith
    by false true = omega arith
    by false false = omega arith

pub protect-short : (kind : ℕ) (a : Answer) (p : Protection) → length (protect_text kind a p) ≤ 10
protect-short kind a p = by (eqb kind 1 && eqb (answer_told a).number 0)
  where
    by : (b : Bool) → length (cond b (typed " protect " ++ decimal_of (protect_number p)) []) ≤ 10
    by true = rw length-append (omega (arith, digits-at-most 0 (protect_number p) (omega (arith, protect-most p))))
    by false = omega arith
