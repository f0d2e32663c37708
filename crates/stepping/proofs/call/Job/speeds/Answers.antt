use mathlib.Core.Path.{ap, sym, ◌∙◌}
use Rattle.stepping.specs.declared.call.Then.{Then}
use Rattle.stepping.specs.Ahead.{then_next}
use Rattle.stepping.proofs.Follows as F
use Rattle.stepping.proofs.call.Job.speeds.Goals as goal

pub returns-in-Ok : goal.returns-in-Ok
returns-in-Ok c = λ ws h. ap (λ (t : Then). then_next c.args.self ws t h) c.and.ensures ∙ F.speed_good c.args.self c.args.known h ws _ (rw (c.min.ensures, c.frequency.ensures) at (sym c.clocks-answer.ensures ∙ c.in-Ok.is))

pub returns-in-Err : goal.returns-in-Err
returns-in-Err c = λ ws h. ap (λ (t : Then). then_next c.args.self ws t h) c.and-in-Err.ensures ∙ F.speed_bad c.args.self c.args.known h ws _ (rw (c.min.ensures, c.frequency.ensures) at (sym c.clocks-answer.ensures ∙ c.in-Err.is))
