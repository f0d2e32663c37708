use mathlib.Core.Path.{refl}
use Rattle.tape.specs.Run.{run}
use Rattle.tape.specs.Steps.{hold_clock}
use Rattle.tape.proofs.Took.{took}
use Rattle.tape.proofs.steps.hold_clock.Goals as goal

pub returns : goal.returns
unfolding hold_clock run
returns c = λ s l. took refl
