use mathlib.Core.Path.{◌∙◌}
use Rattle.step.specs.Transfer.{data_plan, data_next}
use Rattle.step.proofs.Phases as P
use Rattle.step.proofs.ready.Bus.closes.Goals as goal

pub returns-then-gated : goal.returns-then-gated
unfolding data_next data_plan
returns-then-gated c = λ ws h gate. P.closes-gated c.args.self c.args.phase h ws _ gate c.if-gated.true

pub returns-else-gated : goal.returns-else-gated
returns-else-gated c = λ ws h gate. c.stops.ensures ws h gate ∙ P.closes_open c.args.self c.args.phase h ws _ gate c.if-gated.false
