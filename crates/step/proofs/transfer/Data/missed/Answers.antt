use mathlib.Core.Path.{ap, ◌∙◌}
use Rattle.step.specs.Context.{plug_next}
use Rattle.step.specs.Command.{command_plan}
use Rattle.step.specs.Ready.{ready_plan}
use Rattle.step.specs.Transfer.{start_site, stop_site, ending, data_plan, data_next}
use Rattle.step.proofs.Inside.{inside-missed, command-waits}
use Rattle.step.proofs.Readying.{ready-waits}
use Rattle.step.proofs.Phases as P
use Rattle.step.proofs.transfer.Data.missed.Goals as goal

pub returns-in-Asks : goal.returns-in-Asks
unfolding data_next data_plan
returns-in-Asks c = λ ws h gate. rw c.in-Asks.is (c.drops.ensures ws h ∙ P.unanswered _ _ h ws _)

pub returns-in-Tells : goal.returns-in-Tells
unfolding data_next data_plan
returns-in-Tells c = λ ws h gate. rw c.in-Tells.is (P.writes-missed _ _ ws h _)

pub returns-in-Sends : goal.returns-in-Sends
unfolding data_next
returns-in-Sends c = λ ws h gate. rw c.in-Sends.is (P.sends-missed _ _ ws h _)

pub returns-in-Start : goal.returns-in-Start
unfolding data_next data_plan
returns-in-Start c = λ ws h gate. rw c.in-Start.is (c.starting.ensures ws h ∙ ap (plug_next (start_site c.args.bus c.args.phase ws)) (c.missed.ensures h) ∙ inside-missed (start_site c.args.bus c.args.phase ws) (command_plan _) h (command-waits _ h))

pub returns-in-Stop : goal.returns-in-Stop
unfolding data_plan
returns-in-Stop c = λ ws h gate. rw c.in-Stop.is (c.stopping.ensures ws h gate ∙ ap (plug_next (stop_site c.args.bus c.args.phase ws)) (c.missed-in-Stop.ensures h) ∙ inside-missed (stop_site c.args.bus c.args.phase ws) (command_plan _) h (command-waits _ h))

pub returns-in-Ready : goal.returns-in-Ready
unfolding data_plan
returns-in-Ready c = λ ws h gate. rw c.in-Ready.is (c.waiting.ensures ws h ∙ ap (plug_next (ending c.args.bus c.args.phase ws)) (c.missed-in-Ready.ensures h) ∙ inside-missed (ending c.args.bus c.args.phase ws) (ready_plan c.args.bus _) h (ready-waits _ h _))
