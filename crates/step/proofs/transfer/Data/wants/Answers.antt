use mathlib.Core.Path.{ap, ◌∙◌}
use Rattle.step.specs.Command.{command_plan}
use Rattle.step.specs.Ready.{ready_plan}
use Rattle.step.specs.Next.{filled_in}
use Rattle.step.specs.Transfer.{start_site, stop_site, ending, data_plan}
use Rattle.step.proofs.Inside.{inside_wants, command-waits, filled_want}
use Rattle.step.proofs.Readying.{ready-waits}
use Rattle.step.proofs.Phases as P
use Rattle.step.proofs.transfer.Data.wants.Goals as goal

pub returns-in-Asks : goal.returns-in-Asks
unfolding data_plan filled_in
returns-in-Asks c = λ ws. rw (c.in-Asks.is, c.reading.ensures) (P.reads_want _ _ ws _ _)

pub returns-in-Tells : goal.returns-in-Tells
unfolding data_plan filled_in
returns-in-Tells c = λ ws. rw (c.in-Tells.is, c.row.ensures) (P.writes_want _ _ ws _ _)

pub returns-in-Sends : goal.returns-in-Sends
unfolding filled_in
returns-in-Sends c = λ ws. rw (c.in-Sends.is, c.place-place.ensures) (P.sends_want c.args.bus c.args.phase ws _ _)

pub returns-in-Start : goal.returns-in-Start
unfolding data_plan
returns-in-Start c = λ ws. rw c.in-Start.is (ap (filled_in ws.sent) c.wants.ensures ∙ filled_want ws.sent _ ∙ inside_wants (start_site c.args.bus c.args.phase ws) (command_plan _) c.args.line (command-waits _ _))

pub returns-in-Stop : goal.returns-in-Stop
unfolding data_plan
returns-in-Stop c = λ ws. rw c.in-Stop.is (ap (filled_in ws.sent) c.wants-in-Stop.ensures ∙ filled_want ws.sent _ ∙ inside_wants (stop_site c.args.bus c.args.phase ws) (command_plan _) c.args.line (command-waits _ _))

pub returns-in-Ready : goal.returns-in-Ready
unfolding data_plan
returns-in-Ready c = λ ws. rw c.in-Ready.is (ap (filled_in ws.sent) c.wants-in-Ready.ensures ∙ filled_want ws.sent _ ∙ inside_wants (ending c.args.bus c.args.phase ws) (ready_plan c.args.bus _) c.args.line (ready-waits _ _ _))
