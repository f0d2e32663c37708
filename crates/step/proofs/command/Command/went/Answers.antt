use Rattle.step.specs.Command.{part_plan, command_next}
use Rattle.step.proofs.Parts as parts
use Rattle.step.proofs.command.Command.went.Goals as goal

pub returns-in-Tells : goal.returns-in-Tells
unfolding part_plan
returns-in-Tells c = λ h. rw c.in-Tells.is (c.told.ensures h)

pub returns-in-Asks : goal.returns-in-Asks
unfolding command_next part_plan
returns-in-Asks c = λ h. rw c.in-Asks.is (parts.unwritten _ _ _ _ _ h _)
