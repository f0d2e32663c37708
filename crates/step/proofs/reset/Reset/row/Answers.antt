use Rattle.step.specs.Reset.{reset_row}
use Rattle.step.proofs.reset.Reset.row.Goals as goal

pub returns-in-Mask : goal.returns-in-Mask
unfolding reset_row
returns-in-Mask c = rw (c.zero.ensures, c.in-Mask.is)

pub returns-in-Dctrl2 : goal.returns-in-Dctrl2
unfolding reset_row
returns-in-Dctrl2 c = rw (c.zero-in-Dctrl2.ensures, c.in-Dctrl2.is)

pub returns-in-Dctrl : goal.returns-in-Dctrl
unfolding reset_row
returns-in-Dctrl c = rw (c.zero-in-Dctrl.ensures, c.in-Dctrl.is)

pub returns-in-Cmd : goal.returns-in-Cmd
unfolding reset_row
returns-in-Cmd c = rw (c.zero-in-Cmd.ensures, c.in-Cmd.is)

pub returns-in-Power : goal.returns-in-Power
unfolding reset_row
returns-in-Power c = rw (c.zero-in-Power.ensures, c.in-Power.is)

pub returns-in-Clkcr : goal.returns-in-Clkcr
unfolding reset_row
returns-in-Clkcr c = rw (c.zero-in-Clkcr.ensures, c.in-Clkcr.is)

pub returns-in-Arg : goal.returns-in-Arg
unfolding reset_row
returns-in-Arg c = rw (c.zero-in-Arg.ensures, c.in-Arg.is)

pub returns-in-Dtimer : goal.returns-in-Dtimer
unfolding reset_row
returns-in-Dtimer c = rw (c.zero-in-Dtimer.ensures, c.in-Dtimer.is)

pub returns-in-Dlen : goal.returns-in-Dlen
unfolding reset_row
returns-in-Dlen c = rw (c.zero-in-Dlen.ensures, c.in-Dlen.is)

pub returns-in-Icr : goal.returns-in-Icr
unfolding reset_row
returns-in-Icr c = rw c.in-Icr.is
