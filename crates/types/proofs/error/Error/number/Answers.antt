use mathlib.Core.Path.{◌≡◌, refl}
use native.Mathlib.Omega.{arith}
use Rattle.types.specs.Answer.{error_told}
use Rattle.types.specs.declared.error.Error.{Error}
use Rattle.types.specs.declared.error.Error.TheVariants as E
use Rattle.types.proofs.error.Error.number.Goals as goal

drivers : (e : Error) → (e ≡ E.WriteProtected → ⊥) → (error_told e).number ≡ 26 → ⊥
unfolding error_told
drivers E.Timeout h z = omega arith
drivers E.SoftwareTimeout h z = omega arith
drivers E.Crc h z = omega arith
drivers E.StBitErr h z = omega arith
drivers E.Overrun h z = omega arith
drivers E.Underrun h z = omega arith
drivers E.Dma h z = omega arith
drivers E.IncompleteTransfer h z = omega arith
drivers E.ResponseMismatch h z = omega arith
drivers (E.CardStatus word) h z = omega arith
drivers E.CardLocked h z = omega arith
drivers E.UnsupportedCardVersion h z = omega arith
drivers (E.UnsupportedCardType field) h z = omega arith
drivers E.UnsupportedBusWidth h z = omega arith
drivers E.SignalingSwitchFailed h z = omega arith
drivers E.NoCard h z = omega arith
drivers E.BadClock h z = omega arith
drivers E.InvalidConfig h z = omega arith
drivers E.InvalidBufferLength h z = omega arith
drivers E.AddressOutOfRange h z = omega arith
drivers E.WriteProtected h z = absurd (h refl)

pub returns-in-WriteProtected : goal.returns-in-WriteProtected
unfolding error_told
returns-in-WriteProtected c = rw c.in-WriteProtected.is refl

pub returns-in_default : goal.returns-in_default
returns-in_default c = c.place.ensures (drivers c.args.self c.in_default.not-WriteProtected)
