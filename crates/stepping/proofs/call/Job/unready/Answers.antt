use Rattle.tape.specs.Plan.{handle}
use Rattle.step.specs.Context.{plug}
use Rattle.stepping.specs.Ahead.{end_plan, follow_plan, refusal, wait_site}
use Rattle.stepping.proofs.call.Job.unready.Goals as goal

pub returns-in-Blocks : goal.returns-in-Blocks
unfolding follow_plan end_plan wait_site handle plug
returns-in-Blocks c = λ ws h. rw c.in-Blocks.is

pub returns-in-Selected : goal.returns-in-Selected
unfolding follow_plan refusal wait_site handle plug
returns-in-Selected c = λ ws h. rw c.in-Selected.is
