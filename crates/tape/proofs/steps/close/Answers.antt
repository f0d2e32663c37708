use Rattle.std.specs.Prelude.{Err}
use mathlib.Core.Path.{refl, ap}
use Rattle.tape.specs.Pace.{Stopped}
use Rattle.tape.proofs.Laws.{settled-refusal, settled-full}
use Rattle.tape.proofs.Stops.{caused}
use Rattle.tape.proofs.Took.{next, cut, stops}
use Rattle.tape.proofs.steps.close.Goals as goal

pub returns-in-TraceFull : goal.returns-in-TraceFull
returns-in-TraceFull c = λ s. settled-full (ap Stopped c.in-TraceFull.is)

pub returns-in-Ok : goal.returns-in-Ok
returns-in-Ok c = let why = caused _ c.in_default.not-TraceFull in
    λ s. settled-refusal why.cause (ap Stopped why.told) (next (c.in-Ok.ensures s) (stops why.told)).gave

pub returns-in-Err : goal.returns-in-Err
returns-in-Err c = let why = caused _ c.in_default.not-TraceFull in
    λ s. settled-refusal why.cause (ap Stopped why.told) (cut _ {r = Err c.in-Err.full} (c.in-Err.ensures s) refl).gave
