use mathlib.Core.Path.{sym, ◌∙◌}
use borrow.Author.Tests.{eq-eqb, ne_eqb}
use Rattle.step.specs.Transfer.{data_plan}
use Rattle.step.proofs.Phases as P
use Rattle.step.proofs.ready.Bus.settles.Goals as goal

pub returns-then-word-ne0 : goal.returns-then-word-ne0
returns-then-word-ne0 c = λ ws h. c.refuses.ensures ws h ∙ P.settle-bad c.args.self c.args.phase h ws _ _ _ (ne_eqb _ _ c.if-word-ne0.true)

pub returns-then-unfinished : goal.returns-then-unfinished
returns-then-unfinished c = λ ws h. c.polls.ensures ws h ∙ P.settle_goes c.args.self c.args.phase h ws _ _ _ (eq-eqb _ _ c.if-word-ne0.false) (sym c.unfinished.ensures ∙ c.if-unfinished.true)

pub returns-then-word-eq0 : goal.returns-then-word-eq0
unfolding data_plan
returns-then-word-eq0 c = λ ws h. P.settle-drained c.args.self c.args.phase h ws _ _ _ (eq-eqb _ _ c.if-word-ne0.false) (sym c.unfinished.ensures ∙ c.if-unfinished.false) (eq-eqb _ _ c.if-word-eq0.true)

pub returns-else-word-eq0 : goal.returns-else-word-eq0
returns-else-word-eq0 c = λ ws h. c.refuses-else-word-eq0.ensures ws h ∙ P.settle_remains c.args.self c.args.phase h ws _ _ _ (eq-eqb _ _ c.if-word-ne0.false) (sym c.unfinished.ensures ∙ c.if-unfinished.false) (ne_eqb _ _ c.if-word-eq0.false)
