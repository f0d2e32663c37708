use mathlib.Core.Path.{◌∙◌}
use Rattle.step.proofs.Phases as P
use Rattle.step.proofs.ready.Bus.starting.Goals as goal

pub returns-in-On : goal.returns-in-On
returns-in-On c = λ ws h. rw c.in-On.is (P.starting_on _ _ h ws _)

pub returns-in-Ok : goal.returns-in-Ok
returns-in-Ok c = λ ws h. rw (c.in-Over.is, c.in-Ok.is) (c.ordered.ensures ws h ∙ P.starting_well _ _ h ws _)

pub returns-in-Err : goal.returns-in-Err
returns-in-Err c = λ ws h. rw (c.in-Over.is, c.in-Err.is) (c.drops.ensures ws h ∙ P.starting_badly _ _ h ws _)
