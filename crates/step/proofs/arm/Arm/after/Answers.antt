use Rattle.step.specs.Arm.{arm_rest, arm_next}
use Rattle.step.proofs.arm.Arm.after.Goals as goal

pub returns-in-Dctrl2 : goal.returns-in-Dctrl2
unfolding arm_rest arm_next
returns-in-Dctrl2 c = λ timeout transfer. rw c.in-Dctrl2.is

pub returns-in-Mask : goal.returns-in-Mask
unfolding arm_rest arm_next
returns-in-Mask c = λ timeout transfer. rw c.in-Mask.is

pub returns-in-Off : goal.returns-in-Off
unfolding arm_rest arm_next
returns-in-Off c = λ timeout transfer. rw c.in-Off.is

pub returns-in-Icr : goal.returns-in-Icr
unfolding arm_rest arm_next
returns-in-Icr c = λ timeout transfer. rw c.in-Icr.is

pub returns-in-Dtimer : goal.returns-in-Dtimer
unfolding arm_rest arm_next
returns-in-Dtimer c = λ timeout transfer. rw c.in-Dtimer.is

pub returns-in-Dlen : goal.returns-in-Dlen
unfolding arm_rest arm_next
returns-in-Dlen c = λ timeout transfer. rw c.in-Dlen.is
