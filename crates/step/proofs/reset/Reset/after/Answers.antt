use Rattle.step.specs.Reset.{rest_left, step_left}
use Rattle.step.proofs.reset.Reset.after.Goals as goal

pub returns-in-Mask : goal.returns-in-Mask
unfolding rest_left step_left
returns-in-Mask c = rw c.in-Mask.is

pub returns-in-Dctrl2 : goal.returns-in-Dctrl2
unfolding rest_left step_left
returns-in-Dctrl2 c = rw c.in-Dctrl2.is

pub returns-in-Dctrl : goal.returns-in-Dctrl
unfolding rest_left step_left
returns-in-Dctrl c = rw c.in-Dctrl.is

pub returns-in-Cmd : goal.returns-in-Cmd
unfolding rest_left step_left
returns-in-Cmd c = rw c.in-Cmd.is

pub returns-in-Power : goal.returns-in-Power
unfolding rest_left step_left
returns-in-Power c = rw c.in-Power.is

pub returns-in-Clkcr : goal.returns-in-Clkcr
unfolding rest_left step_left
returns-in-Clkcr c = rw c.in-Clkcr.is

pub returns-in-Arg : goal.returns-in-Arg
unfolding rest_left step_left
returns-in-Arg c = rw c.in-Arg.is

pub returns-in-Dtimer : goal.returns-in-Dtimer
unfolding rest_left step_left
returns-in-Dtimer c = rw c.in-Dtimer.is

pub returns-in-Dlen : goal.returns-in-Dlen
unfolding rest_left step_left
returns-in-Dlen c = rw c.in-Dlen.is

pub returns-in-Icr : goal.returns-in-Icr
unfolding rest_left step_left
returns-in-Icr c = rw c.in-Icr.is
