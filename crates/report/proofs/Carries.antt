-- Only the answer that is the card's status has the number 10.
use Prim.Native.Nat.{ℕ}
use mathlib.Core.Bool.{false}
use mathlib.Core.Path.{◌≡◌, refl}
use lib.Dec.{eqb}
use Rattle.types.specs.declared.error.Answer.{Answer}
use Rattle.types.specs.declared.error.Answer.TheVariants as Answered
use Rattle.types.specs.declared.error.Error.{Error}
use Rattle.types.specs.declared.error.Error.TheVariants as E
use Rattle.types.specs.Answer.{error_told, answer_told}

pub other_error : (e : Error) → ((word : ℕ) → e ≡ E.CardStatus word → ⊥) → eqb (error_told e).number 10 ≡ false
unfolding error_told
other_error E.Timeout h = refl
other_error E.SoftwareTimeout h = refl
other_error E.Crc h = refl
other_error E.StBitErr h = refl
other_error E.Overrun h = refl
other_error E.Underrun h = refl
other_error E.Dma h = refl
other_error E.IncompleteTransfer h = refl
other_error E.ResponseMismatch h = refl
other_error (E.CardStatus word) h = absurd (h word refl)
other_error E.CardLocked h = refl
other_error E.UnsupportedCardVersion h = refl
other_error (E.UnsupportedCardType f) h = refl
other_error E.UnsupportedBusWidth h = refl
other_error E.SignalingSwitchFailed h = refl
other_error E.NoCard h = refl
other_error E.BadClock h = refl
other_error E.InvalidConfig h = refl
other_error E.InvalidBufferLength h = refl
other_error E.AddressOutOfRange h = refl
other_error E.WriteProtected h = refl

pub not_refused : (a : Answer) → ((e : Error) → a ≡ Answered.Refused e → ⊥) → eqb (answer_told a).number 10 ≡ false
unfolding answer_told
not_refused Answered.Accepted h = refl
not_refused (Answered.Refused e) h = absurd (h e refl)
not_refused Answered.ScriptEnded h = refl
not_refused Answered.TraceFull h = refl
not_refused Answered.BadBook h = refl
