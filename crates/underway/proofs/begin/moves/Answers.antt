use mathlib.Core.Path.{refl}
use Rattle.underway.specs.First.{first_plan}
use Rattle.underway.proofs.begin.moves.Goals as goal

pub returns-then-sends : goal.returns-then-sends
unfolding first_plan
returns-then-sends c = λ host sent. rw c.if-sends.true refl

pub returns-else-sends : goal.returns-else-sends
unfolding first_plan
returns-else-sends c = λ host sent. rw c.if-sends.false refl
