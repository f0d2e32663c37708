use mathlib.Core.Path.{◌∙◌}
use Rattle.step.specs.Command.{shut, tells_plan, command_next}
use Rattle.step.specs.Context.{plug}
use Rattle.step.proofs.Parts.{closing}
use Rattle.step.proofs.command.Command.ends.Goals as goal

pub returns-then-gate : goal.returns-then-gate
unfolding tells_plan
returns-then-gate c = λ h. rw c.if-gate.true (c.tells.ensures h ∙ closing _ h)

pub returns-else-gate : goal.returns-else-gate
unfolding command_next plug shut
returns-else-gate c = λ h. rw c.if-gate.false
