use mathlib.Core.Path.{ap, ◌∙◌}
use Rattle.step.specs.Context.{plug_next}
use Rattle.step.specs.Command.{command_plan}
use Rattle.step.specs.Ready.{ready_plan}
use Rattle.step.specs.Transfer.{start_site, stop_site, ending, data_plan, data_next, HandedAt}
use Rattle.step.proofs.Inside.{inside-heard, command-waits}
use Rattle.step.proofs.Readying.{ready-waits}
use Rattle.step.proofs.Phases as P
use Rattle.step.proofs.transfer.Data.fed.Goals as goal

pub returns-in-Asks : goal.returns-in-Asks
unfolding data_next data_plan HandedAt
returns-in-Asks c = λ ws ws' h gate more. rw c.in-Asks.is (c.hears.ensures ws ws' h (rw c.in-Asks.is at more))

pub returns-in-Tells : goal.returns-in-Tells
unfolding data_next data_plan HandedAt
returns-in-Tells c = λ ws ws' h gate more. rw (c.in-Tells.is, rw c.in-Tells.is at more) (P.writes-heard _ _ ws h _ _)

pub returns-in-Sends : goal.returns-in-Sends
unfolding data_next HandedAt
returns-in-Sends c = λ ws ws' h gate more. rw (c.in-Sends.is, rw c.in-Sends.is at more) (P.sends-heard _ _ ws h _ _)

pub returns-in-Start : goal.returns-in-Start
unfolding data_next data_plan HandedAt
returns-in-Start c = λ ws ws' h gate more. rw (c.in-Start.is, rw c.in-Start.is at more) (c.starting.ensures ws h ∙ ap (plug_next (start_site c.args.bus c.args.phase ws)) (c.fed.ensures h) ∙ inside-heard (start_site c.args.bus c.args.phase ws) (command_plan _) h (command-waits _ h) _)

pub returns-in-Stop : goal.returns-in-Stop
unfolding data_plan HandedAt
returns-in-Stop c = λ ws ws' h gate more. rw (c.in-Stop.is, rw c.in-Stop.is at more) (c.stopping.ensures ws h gate ∙ ap (plug_next (stop_site c.args.bus c.args.phase ws)) (c.fed-in-Stop.ensures h) ∙ inside-heard (stop_site c.args.bus c.args.phase ws) (command_plan _) h (command-waits _ h) _)

pub returns-in-Ready : goal.returns-in-Ready
unfolding data_plan HandedAt
returns-in-Ready c = λ ws ws' h gate more. rw (c.in-Ready.is, rw c.in-Ready.is at more) (c.waiting.ensures ws h ∙ ap (plug_next (ending c.args.bus c.args.phase ws)) (c.fed-in-Ready.ensures h) ∙ inside-heard (ending c.args.bus c.args.phase ws) (ready_plan c.args.bus _) h (ready-waits _ h _) _)
