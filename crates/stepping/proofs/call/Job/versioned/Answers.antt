use mathlib.Core.Path.{ap, ◌∙◌}
use borrow.Author.Tests.{eq-eqb, ne_eqb}
use Rattle.stepping.specs.declared.call.Then.{Then}
use Rattle.stepping.specs.Ahead.{then_next}
use Rattle.stepping.proofs.Follows as F
use Rattle.stepping.proofs.call.Job.versioned.Goals as goal

pub returns-then-word-eq-CONDITION : goal.returns-then-word-eq-CONDITION
returns-then-word-eq-CONDITION c = λ ws h. c.versions.ensures ws h ∙ F.version-two c.args.self c.args.known h ws c.args.words (eq-eqb _ _ c.if-word-eq-CONDITION.true)

pub returns-then-word-eq-ILLEGAL : goal.returns-then-word-eq-ILLEGAL
returns-then-word-eq-ILLEGAL c = λ ws h. c.versions-then-word-eq-ILLEGAL.ensures ws h ∙ F.version-one c.args.self c.args.known h ws c.args.words (ne_eqb _ _ c.if-word-eq-CONDITION.false) (eq-eqb _ _ c.if-word-eq-ILLEGAL.true)

pub returns-else-word-eq-ILLEGAL : goal.returns-else-word-eq-ILLEGAL
returns-else-word-eq-ILLEGAL c = λ ws h. ap (λ (t : Then). then_next c.args.self ws t h) c.and.ensures ∙ F.version-other c.args.self c.args.known h ws c.args.words (ne_eqb _ _ c.if-word-eq-CONDITION.false) (ne_eqb _ _ c.if-word-eq-ILLEGAL.false)
