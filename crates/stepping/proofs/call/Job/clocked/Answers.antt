use mathlib.Core.Path.{sym, ◌∙◌}
use Rattle.stepping.proofs.Follows as F
use Rattle.stepping.proofs.call.Job.clocked.Goals as goal

pub returns-in-Initial : goal.returns-in-Initial
returns-in-Initial c = λ ws h. rw c.in-Initial.is (F.clock-initial c.args.self c.args.known h ws)

pub returns-then-fast : goal.returns-then-fast
returns-then-fast c = λ ws h. rw c.in-Transfer.is (F.clock_fast c.args.self c.args.known h ws (rw c.frequency.ensures at (sym c.fast.ensures ∙ c.if-fast.true)))

pub returns-else-fast : goal.returns-else-fast
returns-else-fast c = λ ws h. rw c.in-Transfer.is (F.clock-slow c.args.self c.args.known h ws (rw c.frequency.ensures at (sym c.fast.ensures ∙ c.if-fast.false)))

pub returns-in-Switch : goal.returns-in-Switch
returns-in-Switch c = λ ws h. rw c.in-Switch.is (F.clock_switch c.args.self c.args.known h ws)
