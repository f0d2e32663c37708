use mathlib.Core.Path.{sym, ◌∙◌}
use Rattle.stepping.proofs.Follows as F
use Rattle.stepping.proofs.call.Job.switched.Goals as goal

pub returns-in-Ok : goal.returns-in-Ok
returns-in-Ok c = λ ws h is. F.switch_spins c.args.self c.args.known h ws _ _ (sym c.took.ensures ∙ c.if-took.true) (rw (is) (rw c.in-Ok.is at c.delay-answer.ensures))

pub returns-in-Err : goal.returns-in-Err
returns-in-Err c = λ ws h is. F.switch_refused c.args.self c.args.known h ws _ _ (sym c.took.ensures ∙ c.if-took.true) (rw (is) (rw c.in-Err.is at c.delay-answer.ensures))

pub returns-else-took : goal.returns-else-took
returns-else-took c = λ ws h is. F.switch_failed c.args.self c.args.known h ws _ (sym c.took.ensures ∙ c.if-took.false)
