use Rattle.step.specs.Command.{part_plan, command_next}
use Rattle.step.proofs.Parts as parts
use Rattle.step.proofs.command.Command.fed.Goals as goal

pub returns-in-Tells : goal.returns-in-Tells
unfolding command_next part_plan
returns-in-Tells c = λ h. rw c.in-Tells.is (parts.unasked _ _ _ _ _ h _ _)

pub returns-in-Asks : goal.returns-in-Asks
unfolding part_plan
returns-in-Asks c = λ h. rw c.in-Asks.is (c.hears.ensures h)
