use Rattle.step.specs.Command.{part_plan}
use Rattle.step.proofs.Parts as parts
use Rattle.step.proofs.command.Command.wants.Goals as goal

pub returns-in-Tells : goal.returns-in-Tells
unfolding part_plan
returns-in-Tells c = rw c.in-Tells.is c.row.ensures

pub returns-in-Asks : goal.returns-in-Asks
unfolding part_plan
returns-in-Asks c = rw (c.in-Asks.is, c.reading.ensures) (parts.reads _ _ _ _ _ _ _)
