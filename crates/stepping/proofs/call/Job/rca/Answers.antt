use Rattle.stepping.specs.Ahead.{rca_of}
use Rattle.stepping.proofs.call.Job.rca.Goals as goal

pub returns-in-Asked : goal.returns-in-Asked
unfolding rca_of
returns-in-Asked c = rw c.in-Asked.is

pub returns-in-Scr : goal.returns-in-Scr
unfolding rca_of
returns-in-Scr c = rw c.in-Scr.is

pub returns-in-Check : goal.returns-in-Check
unfolding rca_of
returns-in-Check c = rw c.in-Check.is

pub returns-in-Switch : goal.returns-in-Switch
unfolding rca_of
returns-in-Switch c = rw c.in-Switch.is
