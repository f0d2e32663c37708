use Rattle.stepping.specs.Ahead.{phase_by, phase_of}
use Rattle.stepping.proofs.call.Asked.phase.Goals as goal

pub returns-in-Card : goal.returns-in-Card
unfolding phase_of phase_by
returns-in-Card c = rw (c.in-Asked.is, c.in-Card.is)

pub returns-in-Status : goal.returns-in-Status
unfolding phase_of phase_by
returns-in-Status c = rw (c.in-Asked.is, c.in-Status.is)

pub returns-in-Blocks : goal.returns-in-Blocks
unfolding phase_of phase_by
returns-in-Blocks c = rw (c.in-Asked.is, c.in-Blocks.is)

pub returns-in-Sends : goal.returns-in-Sends
unfolding phase_of phase_by
returns-in-Sends c = rw (c.in-Asked.is, c.in-Sends.is)

pub returns-in-Scr : goal.returns-in-Scr
unfolding phase_of
returns-in-Scr c = rw c.in-Scr.is

pub returns-in-Check : goal.returns-in-Check
unfolding phase_of
returns-in-Check c = rw c.in-Check.is

pub returns-in-Switch : goal.returns-in-Switch
unfolding phase_of
returns-in-Switch c = rw c.in-Switch.is
