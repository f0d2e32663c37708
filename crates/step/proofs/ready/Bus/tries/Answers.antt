use mathlib.Core.Path.{refl}
use Rattle.step.specs.Ready.{ready_next, waits_next}
use Rattle.step.proofs.ready.Bus.tries.Goals as goal

pub returns-in-Some : goal.returns-in-Some
unfolding ready_next waits_next
returns-in-Some c = λ h. rw c.in-Some.is refl

pub returns-in-None : goal.returns-in-None
unfolding ready_next waits_next
returns-in-None c = λ h. rw c.in-None.is refl
