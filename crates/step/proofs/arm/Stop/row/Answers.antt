use Rattle.step.specs.Arm.{stop_row}
use Rattle.step.proofs.arm.Stop.row.Goals as goal

pub returns-in-Mask : goal.returns-in-Mask
unfolding stop_row
returns-in-Mask c = rw c.in-Mask.is

pub returns-in-Dctrl : goal.returns-in-Dctrl
unfolding stop_row
returns-in-Dctrl c = rw c.in-Dctrl.is

pub returns-in-Icr : goal.returns-in-Icr
unfolding stop_row
returns-in-Icr c = rw c.in-Icr.is
