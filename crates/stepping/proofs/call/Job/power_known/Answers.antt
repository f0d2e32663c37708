use mathlib.Core.Path.{ap, ◌∙◌}
use borrow.Author.Tests.{eq-eqb, ne_eqb}
use Rattle.stepping.specs.declared.call.Then.{Then}
use Rattle.stepping.specs.Ahead.{then_next}
use Rattle.stepping.proofs.Follows as F
use Rattle.stepping.proofs.call.Job.power_known.Goals as goal

pub returns-then-ocr-eq0 : goal.returns-then-ocr-eq0
returns-then-ocr-eq0 c = λ ws h. ap (λ (t : Then). then_next c.args.self ws t h) c.and.ensures ∙ F.power_none c.args.self c.args.known h ws c.args.words _ (eq-eqb _ _ c.if-ocr-eq0.true)

pub returns-then-ocr-eq0-2 : goal.returns-then-ocr-eq0-2
returns-then-ocr-eq0-2 c = λ ws h. ap (λ (t : Then). then_next c.args.self ws t h) c.and-then-ocr-eq0-2.ensures ∙ F.power_down c.args.self c.args.known h ws c.args.words _ (ne_eqb _ _ c.if-ocr-eq0.false) (eq-eqb _ _ c.if-ocr-eq0-2.true)

pub returns : goal.returns
returns c = λ ws h. ap (λ (t : Then). then_next c.args.self ws t h) c.and-2.ensures ∙ F.power-up c.args.self c.args.known h ws c.args.words _ (ne_eqb _ _ c.if-ocr-eq0.false) (ne_eqb _ _ c.if-ocr-eq0-2.false)
