use mathlib.Core.Path.{◌∙◌}
use Rattle.step.specs.Command.{command_plan}
use Rattle.step.specs.Ready.{asked, ready_plan}
use Rattle.step.proofs.Inside.{inside_wants, command-waits}
use Rattle.step.proofs.Readying as W
use Rattle.step.proofs.ready.Ready.wants.Goals as goal

pub returns-in-Asks : goal.returns-in-Asks
unfolding ready_plan
returns-in-Asks c = rw c.in-Asks.is (c.wants.ensures ∙ inside_wants (asked c.args.bus _) (command_plan _) c.args.line (command-waits _ _))

pub returns-in-Delay : goal.returns-in-Delay
returns-in-Delay c = rw (c.in-Delay.is, c.millisecond.ensures) (W.delay_wants _ _ _)
