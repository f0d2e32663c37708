use mathlib.Core.Path.{refl}
use Rattle.stepping.specs.Ahead.{line_set}
use Rattle.underway.proofs.rows.set.Goals as goal

pub returns-in-Initial : goal.returns-in-Initial
unfolding line_set
returns-in-Initial c = rw c.in-Initial.is refl

pub returns-in-Transfer : goal.returns-in-Transfer
unfolding line_set
returns-in-Transfer c = rw c.in-Transfer.is c.clocked.ensures

pub returns-in-Switch : goal.returns-in-Switch
unfolding line_set
returns-in-Switch c = rw c.in-Switch.is c.clocked-in-Switch.ensures
