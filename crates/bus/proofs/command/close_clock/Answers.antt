use mathlib.Core.Path.{refl, ap}
use Rattle.tape.specs.Pace.{Stopped}
use Rattle.tape.proofs.Laws.{settled-value, settled-refusal, settled-full}
use Rattle.tape.proofs.Stops.{caused}
use Rattle.tape.proofs.Took.{gives, next, cut, stops}
use Rattle.bus.proofs.command.close_clock.Goals as goal

pub returns-in_err-set_clken-in-Ok : goal.returns-in_err-set_clken-in-Ok
returns-in_err-set_clken-in-Ok c = λ s. rw c.in-Ok.is (settled-value refl (cut _ (c.in_err-set_clken-in-Ok.ensures s) c.from_residual.ensures.1).gave)

pub returns-in_ok-set_clken-in-Ok : goal.returns-in_ok-set_clken-in-Ok
returns-in_ok-set_clken-in-Ok c = λ s. rw c.in-Ok.is (settled-value refl (next (c.in_ok-set_clken-in-Ok.ensures s) gives).gave)

pub returns-in-TraceFull : goal.returns-in-TraceFull
returns-in-TraceFull c = λ s. rw (c.in-Err.is, c.in-TraceFull.is) (settled-full refl)

pub returns-in_err-set_clken-in_default : goal.returns-in_err-set_clken-in_default
returns-in_err-set_clken-in_default c = let why = caused _ c.in_default.not-TraceFull in
    λ s. rw c.in-Err.is (settled-refusal why.cause (ap Stopped why.told)
    (cut _ (c.in_err-set_clken-in_default.ensures s) c.from_residual-in_err-set_clken-in_default.ensures.1).gave)

pub returns-in_ok-set_clken-in_default : goal.returns-in_ok-set_clken-in_default
returns-in_ok-set_clken-in_default c = let why = caused _ c.in_default.not-TraceFull in
    λ s. rw c.in-Err.is (settled-refusal why.cause (ap Stopped why.told) (next (c.in_ok-set_clken-in_default.ensures s) (stops why.told)).gave)
