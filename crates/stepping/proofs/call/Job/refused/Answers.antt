use mathlib.Core.Path.{ap, ◌∙◌}
use Rattle.stepping.specs.declared.call.Then.{Then}
use Rattle.stepping.specs.Ahead.{then_next}
use Rattle.stepping.proofs.Standing as S
use Rattle.stepping.proofs.call.Job.refused.Goals as goal

pub returns-in-App : goal.returns-in-App
returns-in-App c = λ ws h. rw c.in-App.is (ap (λ (t : Then). then_next c.args.self ws t h) c.and.ensures ∙ S.app-failed c.args.self c.args.known h ws _)

pub returns-in-Init : goal.returns-in-Init
returns-in-Init c = λ ws h. rw c.in-Init.is (c.failed.ensures ws h ∙ S.init_failed c.args.self c.args.known h ws _ c.args.why)
