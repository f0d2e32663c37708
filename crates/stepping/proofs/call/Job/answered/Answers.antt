use mathlib.Core.Path.{ap, ◌∙◌}
use borrow.Author.Tests.{eq-eqb, ne_eqb}
use Rattle.stepping.specs.declared.call.Then.{Then}
use Rattle.stepping.specs.Ahead.{then_next}
use Rattle.stepping.proofs.Standing as S
use Rattle.stepping.proofs.call.Job.answered.Goals as goal

pub returns-then-words-eq0 : goal.returns-then-words-eq0
returns-then-words-eq0 c = λ ws h. rw c.in-App.is (ap (λ (t : Then). then_next c.args.self ws t h) c.and.ensures ∙ S.app-untaken c.args.self c.args.known h ws c.args.words (eq-eqb _ _ c.if-words-eq0.true))

pub returns-else-words-eq0 : goal.returns-else-words-eq0
returns-else-words-eq0 c = λ ws h. rw c.in-App.is (ap (λ (t : Then). then_next c.args.self ws t h) c.and-else-words-eq0.ensures ∙ S.app-taken c.args.self c.args.known h ws c.args.words (ne_eqb _ _ c.if-words-eq0.false))

pub returns-in-Init : goal.returns-in-Init
returns-in-Init c = λ ws h. rw c.in-Init.is (c.came.ensures ws h ∙ S.init_site c.args.self c.args.known h ws _ c.args.words)
