use mathlib.Core.Path.{refl}
use Rattle.stepping.specs.Ahead.{clock_on}
use Rattle.underway.proofs.rows.clock_row.Goals as goal

pub returns-in-Initial : goal.returns-in-Initial
unfolding clock_on
returns-in-Initial c = rw (c.in-Initial.is, c.written.ensures, c.clkcr.ensures, c.initial.ensures) refl

pub returns-in-Transfer : goal.returns-in-Transfer
unfolding clock_on
returns-in-Transfer c = rw (c.in-Transfer.is, c.written-in-Transfer.ensures, c.clkcr-in-Transfer.ensures) refl

pub returns-in-Switch : goal.returns-in-Switch
unfolding clock_on
returns-in-Switch c = rw (c.in-Switch.is, c.written-in-Switch.ensures, c.clkcr-in-Switch.ensures) refl
