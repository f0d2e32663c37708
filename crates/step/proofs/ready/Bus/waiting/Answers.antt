use mathlib.Core.Path.{◌∙◌}
use Rattle.step.specs.Transfer.{data_next}
use Rattle.step.proofs.Phases as P
use Rattle.step.proofs.ready.Bus.waiting.Goals as goal

pub returns-in-On : goal.returns-in-On
unfolding data_next
returns-in-On c = λ ws h. rw c.in-On.is (P.waiting-on _ _ h ws _)

pub returns-in-Ok : goal.returns-in-Ok
unfolding data_next
returns-in-Ok c = λ ws h. rw (c.in-Over.is, c.in-Ok.is) (P.waiting-done _ _ h ws)

pub returns-in-Err : goal.returns-in-Err
unfolding data_next
returns-in-Err c = λ ws h. rw (c.in-Over.is, c.in-Err.is) (c.drops.ensures ws h ∙ P.waiting-failed _ _ h ws _)
