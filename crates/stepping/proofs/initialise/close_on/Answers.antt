use Rattle.stepping.specs.Ahead.{close_on}
use Rattle.stepping.proofs.initialise.close_on.Goals as goal

pub returns-in-Some : goal.returns-in-Some
unfolding close_on
returns-in-Some c = rw c.in-Some.is

pub returns-in-None : goal.returns-in-None
unfolding close_on
returns-in-None c = rw c.in-None.is
