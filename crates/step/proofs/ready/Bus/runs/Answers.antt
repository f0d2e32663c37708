use mathlib.Core.Path.{◌∙◌}
use borrow.Author.Tests.{eq-eqb, ne_eqb}
use Rattle.step.specs.Transfer.{data_plan}
use Rattle.step.proofs.Phases as P
use Rattle.step.proofs.ready.Bus.runs.Goals as goal

pub returns-then-word-ne0 : goal.returns-then-word-ne0
returns-then-word-ne0 c = λ ws h. c.refuses.ensures ws h ∙ P.dma-bad c.args.self c.args.phase h ws _ _ _ (ne_eqb _ _ c.if-word-ne0.true)

pub returns-then-word-ne0-2 : goal.returns-then-word-ne0-2
returns-then-word-ne0-2 c = λ ws h. c.polls.ensures ws h ∙ P.dma-runs c.args.self c.args.phase h ws _ _ _ (eq-eqb _ _ c.if-word-ne0.false) (ne_eqb _ _ c.if-word-ne0-2.true)

pub returns-else-word-ne0-2 : goal.returns-else-word-ne0-2
unfolding data_plan
returns-else-word-ne0-2 c = λ ws h. P.dma-done c.args.self c.args.phase h ws _ _ _ (eq-eqb _ _ c.if-word-ne0.false) (eq-eqb _ _ c.if-word-ne0-2.false)
