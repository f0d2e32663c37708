use Rattle.step.specs.Arm.{arm_row}
use Rattle.step.proofs.arm.Arm.row.Goals as goal

pub returns-in-Dctrl2 : goal.returns-in-Dctrl2
unfolding arm_row
returns-in-Dctrl2 c = rw c.in-Dctrl2.is

pub returns-in-Mask : goal.returns-in-Mask
unfolding arm_row
returns-in-Mask c = rw c.in-Mask.is

pub returns-in-Off : goal.returns-in-Off
unfolding arm_row
returns-in-Off c = rw c.in-Off.is

pub returns-in-Icr : goal.returns-in-Icr
unfolding arm_row
returns-in-Icr c = rw c.in-Icr.is

pub returns-in-Dtimer : goal.returns-in-Dtimer
unfolding arm_row
returns-in-Dtimer c = rw c.in-Dtimer.is

pub returns-in-Dlen : goal.returns-in-Dlen
unfolding arm_row
returns-in-Dlen c = rw c.in-Dlen.is
