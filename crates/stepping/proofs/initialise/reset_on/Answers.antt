use Rattle.stepping.specs.Ahead.{reset_on}
use Rattle.stepping.proofs.initialise.reset_on.Goals as goal

pub returns-in-Some : goal.returns-in-Some
unfolding reset_on
returns-in-Some c = rw c.in-Some.is

pub returns-in-None : goal.returns-in-None
unfolding reset_on
returns-in-None c = rw c.in-None.is
