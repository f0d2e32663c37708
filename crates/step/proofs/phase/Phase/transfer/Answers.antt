use Rattle.step.specs.Transfer.{transfer_of}
use Rattle.step.proofs.phase.Phase.transfer.Goals as goal

pub returns-in-Scr : goal.returns-in-Scr
unfolding transfer_of
returns-in-Scr c = rw c.in-Scr.is

pub returns-in-Check : goal.returns-in-Check
unfolding transfer_of
returns-in-Check c = rw c.in-Check.is

pub returns-in-Switch : goal.returns-in-Switch
unfolding transfer_of
returns-in-Switch c = rw c.in-Switch.is

pub returns-in-Status : goal.returns-in-Status
unfolding transfer_of
returns-in-Status c = rw c.in-Status.is

pub returns-in-Blocks : goal.returns-in-Blocks
unfolding transfer_of
returns-in-Blocks c = rw c.in-Blocks.is c.move_blocks.ensures

pub returns-in-Sends : goal.returns-in-Sends
unfolding transfer_of
returns-in-Sends c = rw c.in-Sends.is c.move_blocks-in-Sends.ensures
