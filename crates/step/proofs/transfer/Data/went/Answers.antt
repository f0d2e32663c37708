use mathlib.Core.Path.{◌∙◌}
use Rattle.step.specs.Transfer.{start_site, stop_site, ending, data_plan, data_next}
use Rattle.step.proofs.Inside.{command-goes, command_gate}
use Rattle.step.proofs.Readying.{ready-goes}
use Rattle.step.proofs.Phases as P
use Rattle.step.proofs.transfer.Data.went.Goals as goal

pub returns-in-Asks : goal.returns-in-Asks
unfolding data_next data_plan
returns-in-Asks c = λ ws h gate. rw c.in-Asks.is (P.reads-told _ _ ws h _)

pub returns-in-Tells : goal.returns-in-Tells
unfolding data_plan
returns-in-Tells c = λ ws h gate. rw c.in-Tells.is (c.goes.ensures ws _ (P.writes-gated _ _ ws h _ ∙ gate) ∙ P.writes-told _ _ ws h _)

pub returns-in-Sends : goal.returns-in-Sends
unfolding data_next
returns-in-Sends c = λ ws h gate. rw c.in-Sends.is (c.sent.ensures ws _ ∙ P.sends-told _ _ ws h _)

pub returns-in-Start : goal.returns-in-Start
unfolding data_next data_plan
returns-in-Start c = λ ws h gate. rw c.in-Start.is (c.starting.ensures ws _ ∙ command-goes (start_site c.args.bus c.args.phase ws) _ _ h (c.went.ensures h))

pub returns-in-Stop : goal.returns-in-Stop
unfolding data_plan
returns-in-Stop c = λ ws h gate. rw c.in-Stop.is (c.stopping.ensures ws _ (command_gate (stop_site c.args.bus c.args.phase ws) _ h ∙ gate) ∙ command-goes (stop_site c.args.bus c.args.phase ws) _ _ h (c.went-in-Stop.ensures h))

pub returns-in-Ready : goal.returns-in-Ready
unfolding data_plan
returns-in-Ready c = λ ws h gate. rw c.in-Ready.is (c.waiting.ensures ws _ ∙ ready-goes c.args.bus h (ending c.args.bus c.args.phase ws) _ _ (c.went-in-Ready.ensures h gate))
