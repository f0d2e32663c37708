use mathlib.Core.Path.{ap, ◌∙◌}
use Rattle.step.specs.Context.{plug_next}
use Rattle.step.specs.Transfer.{ending, data_next}
use Rattle.step.proofs.Phases as P
use Rattle.step.proofs.ready.Bus.stops.Goals as goal

pub returns-in-Some : goal.returns-in-Some
unfolding data_next
returns-in-Some c = λ ws h gate. P.stops-on c.args.self c.args.phase h ws _ gate _ (rw (c.of_many.ensures, c.transfer-transfer.ensures) at c.if-of_many.true) (rw c.in-Some.is at (c.begin-begun.ensures h))

pub returns-in-None : goal.returns-in-None
unfolding data_next
returns-in-None c = λ ws h gate. c.refuses.ensures ws h ∙ P.stops-failed c.args.self c.args.phase h ws _ gate (rw (c.of_many.ensures, c.transfer-transfer.ensures) at c.if-of_many.true) (rw c.in-None.is at (c.begin-begun.ensures h))

pub returns : goal.returns
returns c = λ ws h gate. c.waiting.ensures ws h ∙ ap (plug_next (ending c.args.self c.args.phase ws)) (c.tries.ensures h ∙ c.wait_ready.ensures h gate) ∙ P.stops-other c.args.self c.args.phase h ws (rw (c.of_many.ensures, c.transfer-transfer.ensures) at c.if-of_many.false)
