use Prim.Native.Nat.{ℕ}
use mathlib.Core.Path.{◌≡◌, refl}
use Rattle.types.specs.Answer.{carried, error_told}
use Rattle.types.specs.declared.error.Error.{Error}
use Rattle.types.specs.declared.error.Field.{Field}
use Rattle.types.specs.declared.error.Error.TheVariants as E
use Rattle.types.proofs.error.Error.word.Goals as goal

bare : (e : Error) → ((word : ℕ) → e ≡ E.CardStatus word → ⊥) → ((field : Field) → e ≡ E.UnsupportedCardType field → ⊥) → 0 ≡ carried (error_told e)
unfolding error_told
bare E.Timeout h k = refl
bare E.SoftwareTimeout h k = refl
bare E.Crc h k = refl
bare E.StBitErr h k = refl
bare E.Overrun h k = refl
bare E.Underrun h k = refl
bare E.Dma h k = refl
bare E.IncompleteTransfer h k = refl
bare E.ResponseMismatch h k = refl
bare (E.CardStatus word) h k = absurd (h word refl)
bare E.CardLocked h k = refl
bare E.UnsupportedCardVersion h k = refl
bare (E.UnsupportedCardType field) h k = absurd (k field refl)
bare E.UnsupportedBusWidth h k = refl
bare E.SignalingSwitchFailed h k = refl
bare E.NoCard h k = refl
bare E.BadClock h k = refl
bare E.InvalidConfig h k = refl
bare E.InvalidBufferLength h k = refl
bare E.AddressOutOfRange h k = refl
bare E.WriteProtected h k = refl

pub returns-in-CardStatus : goal.returns-in-CardStatus
unfolding error_told
returns-in-CardStatus c = rw c.in-CardStatus.is

pub returns-in-UnsupportedCardType : goal.returns-in-UnsupportedCardType
unfolding error_told
returns-in-UnsupportedCardType c = rw c.in-UnsupportedCardType.is c.number.ensures

pub returns-in_default : goal.returns-in_default
unfolding error_told
returns-in_default c = bare c.args.self c.in_default.not-CardStatus c.in_default.not-UnsupportedCardType
