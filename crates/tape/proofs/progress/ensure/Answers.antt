use Rattle.tape.specs.Plan.{ensure}
use Rattle.tape.proofs.Took.{gives, refuses, on_true, on_false}
use Rattle.tape.proofs.progress.ensure.Goals as goal

pub returns-then-holds : goal.returns-then-holds
unfolding ensure
returns-then-holds c = λ s h l. on_true _ c.if-holds.true gives

pub returns-else-holds : goal.returns-else-holds
unfolding ensure
returns-else-holds c = λ s h l. on_false _ c.if-holds.false refuses
