use mathlib.Core.Path.{ap, sym, ◌∙◌}
use Rattle.stepping.specs.declared.call.Then.{Then}
use Rattle.stepping.specs.Ahead.{then_next}
use Rattle.stepping.proofs.Follows as F
use Rattle.stepping.proofs.call.Job.failed.Goals as goal

pub returns-then-forgives : goal.returns-then-forgives
returns-then-forgives c = λ ws h. c.versions.ensures ws h ∙ F.forgives c.args.self c.args.known h _ _ (sym c.forgives.ensures ∙ c.if-forgives.true)

pub returns-else-forgives : goal.returns-else-forgives
returns-else-forgives c = λ ws h. ap (λ (t : Then). then_next c.args.self ws t h) c.and.ensures ∙ F.fails c.args.self c.args.known h ws _ _ (sym c.forgives.ensures ∙ c.if-forgives.false)
