use mathlib.Core.Path.{ap, ◌∙◌}
use Rattle.stepping.specs.declared.call.Then.{Then}
use Rattle.stepping.specs.Ahead.{line_set, told_plan, then_next}
use Rattle.stepping.proofs.Follows as F
use Rattle.stepping.proofs.call.Job.gone.Goals as goal

pub returns-in-Reset : goal.returns-in-Reset
unfolding line_set
returns-in-Reset c = λ ws h. rw c.in-Reset.is (ap (λ (t : Then). then_next c.args.self ws t h) c.and.ensures ∙ rw c.reset_on.ensures (F.reset-on c.args.self c.args.known h ws _ _ c.after.ensures))

pub returns-in-Clock : goal.returns-in-Clock
returns-in-Clock c = λ ws h. rw (c.in-Clock.is, c.and-in-Clock.ensures) (c.clocked.ensures ws h)

pub returns-in-Power : goal.returns-in-Power
unfolding line_set
returns-in-Power c = λ ws h. rw c.in-Power.is (ap (λ (t : Then). then_next c.args.self ws t h) c.and-in-Power.ensures ∙ F.power-on c.args.self c.args.known h ws)

pub returns-in-Open : goal.returns-in-Open
unfolding line_set told_plan
returns-in-Open c = λ ws h. rw c.in-Open.is (ap (λ (t : Then). then_next c.args.self ws t h) c.and-in-Open.ensures ∙ c.opens.ensures ws h)

pub returns-in-Delay : goal.returns-in-Delay
unfolding line_set
returns-in-Delay c = λ ws h. rw c.in-Delay.is (ap (λ (t : Then). then_next c.args.self ws t h) c.and-in-Delay.ensures ∙ F.delay-on c.args.self c.args.known h ws _)

pub returns-in-Retry : goal.returns-in-Retry
unfolding line_set told_plan
returns-in-Retry c = λ ws h. rw c.in-Retry.is (ap (λ (t : Then). then_next c.args.self ws t h) c.and-in-Retry.ensures ∙ c.powers.ensures ws h)

pub returns-in-Settle : goal.returns-in-Settle
unfolding line_set told_plan
returns-in-Settle c = λ ws h. rw c.in-Settle.is (c.speeds.ensures ws h)

pub returns-in-Close : goal.returns-in-Close
unfolding line_set
returns-in-Close c = λ ws h. rw c.in-Close.is (ap (λ (t : Then). then_next c.args.self ws t h) c.and-in-Close.ensures ∙ rw c.close_on.ensures (F.close-on c.args.self c.args.known h ws _ _ _ c.after-in-Close.ensures))
