use Rattle.step.specs.Transfer.{data_plan}
use Rattle.step.proofs.Phases as P
use Rattle.step.proofs.ready.Bus.drops.Goals as goal

pub returns : goal.returns
unfolding data_plan
returns c = λ ws h. P.refusing _ _ h ws _
