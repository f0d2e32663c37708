use mathlib.Core.Path.{ap, ◌∙◌}
use Rattle.tape.specs.Plan.{handle}
use Rattle.tape.specs.Steps.{row}
use Rattle.bus.specs.Ready.{retry_delay}
use Rattle.step.specs.Next.{next, heard}
use Rattle.step.specs.Context.{plug, plug_next}
use Rattle.step.specs.Command.{command_plan}
use Rattle.step.specs.Ready.{asked, ready_plan, ready_next}
use Rattle.step.proofs.Inside.{inside-heard, command-waits}
use Rattle.step.proofs.ready.Ready.fed.Goals as goal

pub returns-in-Asks : goal.returns-in-Asks
unfolding ready_plan
returns-in-Asks c = λ h. rw c.in-Asks.is (c.asking.ensures h ∙ ap (plug_next (asked c.args.bus _)) (c.fed.ensures h) ∙ inside-heard (asked c.args.bus _) (command_plan _) h (command-waits _ h) _)

pub returns-in-Delay : goal.returns-in-Delay
unfolding ready_next ready_plan retry_delay row handle plug next heard
returns-in-Delay c = λ h. rw c.in-Delay.is
