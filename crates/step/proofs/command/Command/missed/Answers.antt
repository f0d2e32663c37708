use mathlib.Core.Path.{◌∙◌}
use Rattle.step.specs.Command.{end_next, part_plan, command_next}
use Rattle.step.proofs.Parts as parts
use Rattle.step.proofs.command.Command.missed.Goals as goal

pub returns-in-Tells : goal.returns-in-Tells
unfolding command_next part_plan
returns-in-Tells c = λ h. rw c.in-Tells.is (parts.unmissed _ _ _ _ _ h _)

pub returns-in-Asks : goal.returns-in-Asks
unfolding part_plan end_next
returns-in-Asks c = λ h. rw c.in-Asks.is (c.ends.ensures h ∙ parts.unanswered _ _ _ _ _ h _)
