use Rattle.step.specs.Arm.{stop_rest, stop_next}
use Rattle.step.proofs.arm.Stop.after.Goals as goal

pub returns-in-Mask : goal.returns-in-Mask
unfolding stop_rest stop_next
returns-in-Mask c = rw c.in-Mask.is

pub returns-in-Dctrl : goal.returns-in-Dctrl
unfolding stop_rest stop_next
returns-in-Dctrl c = rw c.in-Dctrl.is

pub returns-in-Icr : goal.returns-in-Icr
unfolding stop_rest stop_next
returns-in-Icr c = rw c.in-Icr.is
