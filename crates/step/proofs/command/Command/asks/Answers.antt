use Rattle.step.specs.Command.{part_plan, command_next}
use Rattle.step.proofs.command.Command.asks.Goals as goal

pub returns : goal.returns
unfolding command_next part_plan
returns c = λ h. rw c.at.ensures
