use mathlib.Core.Path.{refl}
use Rattle.underway.specs.First.{first_plan}
use Rattle.underway.specs.Whole.{status_call}
use Rattle.underway.proofs.begin.status_first.Goals as goal

pub returns-then-host : goal.returns-then-host
unfolding first_plan status_call
returns-then-host c = λ sent. rw c.if-host.true refl

pub returns-else-host : goal.returns-else-host
unfolding first_plan status_call
returns-else-host c = λ sent. rw c.if-host.false refl
