use mathlib.Core.Path.{◌∙◌}
use borrow.Author.Tests.{eq-eqb, ne_eqb}
use Rattle.step.proofs.Phases as P
use Rattle.step.proofs.ready.Bus.counts.Goals as goal

pub returns-then-word-eq0 : goal.returns-then-word-eq0
returns-then-word-eq0 c = λ ws h. c.lands.ensures ws h ∙ P.count-good c.args.self c.args.phase h ws _ _ (eq-eqb _ _ c.if-word-eq0.true)

pub returns-else-word-eq0 : goal.returns-else-word-eq0
returns-else-word-eq0 c = λ ws h. c.refuses.ensures ws h ∙ P.count-bad c.args.self c.args.phase h ws _ _ (ne_eqb _ _ c.if-word-eq0.false)
