use Rattle.tape.specs.Plan.{handle}
use Rattle.step.specs.Context.{plug}
use Rattle.stepping.specs.Ahead.{end_plan, follow_plan, gets_site, refusal}
use Rattle.stepping.proofs.call.Job.lost.Goals as goal

pub returns-in-Asked : goal.returns-in-Asked
unfolding follow_plan end_plan gets_site handle plug
returns-in-Asked c = λ ws h. rw c.in-Asked.is

pub returns-in-Scr : goal.returns-in-Scr
unfolding follow_plan gets_site refusal handle plug
returns-in-Scr c = λ ws h. rw c.in-Scr.is

pub returns-in-Check : goal.returns-in-Check
unfolding follow_plan gets_site refusal handle plug
returns-in-Check c = λ ws h. rw c.in-Check.is

pub returns-in-Switch : goal.returns-in-Switch
unfolding follow_plan gets_site refusal handle plug
returns-in-Switch c = λ ws h. rw c.in-Switch.is
