use mathlib.Core.Path.{refl}
use Rattle.tape.specs.Run.{run}
use Rattle.tape.specs.Steps.{hold_signalling}
use Rattle.tape.proofs.Took.{took}
use Rattle.tape.proofs.steps.hold_signalling.Goals as goal

pub returns : goal.returns
unfolding hold_signalling run
returns c = λ s l. took refl
