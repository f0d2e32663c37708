use mathlib.Core.Path.{ap, ◌∙◌}
use Rattle.tape.specs.Plan.{handle}
use Rattle.tape.specs.Steps.{row}
use Rattle.bus.specs.Ready.{retry_delay}
use Rattle.step.specs.Next.{next, missed}
use Rattle.step.specs.Context.{plug, plug_next}
use Rattle.step.specs.Command.{command_plan}
use Rattle.step.specs.Ready.{asked, ready_plan, ready_next}
use Rattle.step.proofs.Inside.{inside-missed, command-waits}
use Rattle.step.proofs.ready.Ready.missed.Goals as goal

pub returns-in-Asks : goal.returns-in-Asks
unfolding ready_plan
returns-in-Asks c = λ h. rw c.in-Asks.is (c.asking.ensures h ∙ ap (plug_next (asked c.args.bus _)) (c.missed.ensures h) ∙ inside-missed (asked c.args.bus _) (command_plan _) h (command-waits _ h))

pub returns-in-Delay : goal.returns-in-Delay
unfolding ready_next ready_plan retry_delay row handle plug next missed
returns-in-Delay c = λ h. rw c.in-Delay.is
