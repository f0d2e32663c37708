use mathlib.Core.Bool.{false}
use mathlib.Core.Path.{◌≡◌, refl}
use Rattle.types.specs.declared.error.Error.{Error}
use Rattle.types.specs.declared.error.Error.TheVariants as E
use Rattle.init.specs.Initialise.{timed_out}
use Rattle.init.proofs.begin.timed_out.Goals as goal

other : (e : Error) → (e ≡ E.Timeout → ⊥) → false ≡ timed_out e
unfolding timed_out
other E.Timeout h = absurd (h refl)
other E.SoftwareTimeout h = refl
other E.Crc h = refl
other E.StBitErr h = refl
other E.Overrun h = refl
other E.Underrun h = refl
other E.Dma h = refl
other E.IncompleteTransfer h = refl
other E.ResponseMismatch h = refl
other (E.CardStatus word) h = refl
other E.CardLocked h = refl
other E.UnsupportedCardVersion h = refl
other (E.UnsupportedCardType field) h = refl
other E.UnsupportedBusWidth h = refl
other E.SignalingSwitchFailed h = refl
other E.NoCard h = refl
other E.BadClock h = refl
other E.InvalidConfig h = refl
other E.InvalidBufferLength h = refl
other E.AddressOutOfRange h = refl
other E.WriteProtected h = refl

pub returns-in-Timeout : goal.returns-in-Timeout
unfolding timed_out
returns-in-Timeout c = rw c.in-Timeout.is

pub returns-in_default : goal.returns-in_default
unfolding timed_out
returns-in_default c = other c.args.e c.in_default.not-Timeout
