use mathlib.Core.Path.{ap, ◌∙◌}
use borrow.Author.Tests.{eq-eqb, ne_eqb}
use Rattle.stepping.specs.Ahead.{stand_next}
use Rattle.stepping.specs.declared.call.Stand.{Stand}
use Rattle.stepping.proofs.Standing as S
use Rattle.stepping.proofs.call.Job.idled.Goals as goal

pub returns-then-word-eq0 : goal.returns-then-word-eq0
returns-then-word-eq0 c = λ held g h. ap (λ (s : Stand). stand_next c.args.self held g s h) c.at.ensures ∙ S.idle-ends c.args.self c.args.known h held g _ _ _ (eq-eqb _ _ c.if-word-eq0.true)

pub returns-else-word-eq0 : goal.returns-else-word-eq0
returns-else-word-eq0 c = λ held g h. ap (λ (s : Stand). stand_next c.args.self held g s h) c.at-else-word-eq0.ensures ∙ c.idles.ensures held g h ∙ S.idle-on c.args.self c.args.known h held g _ _ _ (ne_eqb _ _ c.if-word-eq0.false)
