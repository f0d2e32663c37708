use mathlib.Core.Path.{◌∙◌}
use Rattle.step.specs.Transfer.{data_plan}
use Rattle.step.proofs.Phases as P
use Rattle.step.proofs.ready.Bus.ordered.Goals as goal

pub returns-then-sends : goal.returns-then-sends
unfolding data_plan
returns-then-sends c = λ ws h. P.ordered-sends c.args.self c.args.phase h ws (rw c.sends.ensures at c.if-sends.true)

pub returns-else-sends : goal.returns-else-sends
returns-else-sends c = λ ws h. c.polls.ensures ws h ∙ P.ordered-reads _ _ h ws (rw c.sends.ensures at c.if-sends.false)
