use mathlib.Core.Path.{◌∙◌}
use Rattle.step.specs.Ready.{ready_next}
use Rattle.step.proofs.Readying as W
use Rattle.step.proofs.ready.Bus.asking.Goals as goal

pub returns-in-On : goal.returns-in-On
unfolding ready_next
returns-in-On c = λ h. rw c.in-On.is (W.asking-on _ h _ _)

pub returns-in-Ok : goal.returns-in-Ok
returns-in-Ok c = λ h. rw (c.in-Over.is, c.in-Ok.is) (c.answered.ensures h ∙ W.asking_well _ h _ _)

pub returns-in-Err : goal.returns-in-Err
unfolding ready_next
returns-in-Err c = λ h. rw (c.in-Over.is, c.in-Err.is) (W.asking_badly _ h _ _)
