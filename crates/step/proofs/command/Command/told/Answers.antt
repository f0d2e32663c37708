use mathlib.Core.Path.{◌∙◌}
use Rattle.step.specs.Command.{command_next}
use Rattle.step.proofs.Parts as parts
use Rattle.step.proofs.command.Command.told.Goals as goal

pub returns-in-Open : goal.returns-in-Open
returns-in-Open c = λ h. rw c.in-Open.is (c.idles.ensures _ ∙ parts.opened _ _ _ _ _ h)

pub returns-in-Icr : goal.returns-in-Icr
returns-in-Icr c = λ h. rw c.in-Icr.is (c.tells.ensures _ ∙ parts.icr_goes _ _ _ _ _ h)

pub returns-in-Argument : goal.returns-in-Argument
returns-in-Argument c = λ h. rw c.in-Argument.is (c.tells-in-Argument.ensures _ ∙ parts.argument_goes _ _ _ _ _ h)

pub returns-in-Order : goal.returns-in-Order
returns-in-Order c = λ h. rw c.in-Order.is (c.polls.ensures _ ∙ parts.order_goes _ _ _ _ _ h)

pub returns-in-Close : goal.returns-in-Close
unfolding command_next
returns-in-Close c = λ h. rw c.in-Close.is (parts.closed _ _ _ _ _ h _)
