use Rattle.report.specs.Report.{state_text}
use Rattle.bench.proofs.Hosts.{and_accepted, and_refused}
use Rattle.bench.proofs.trace.put_head.Goals as goal

pub returns-in-Accepted : goal.returns-in-Accepted
returns-in-Accepted c = let made = c.args.made in
    and_accepted made.answer _ (state_text made.host) _ (rw c.number.ensures at c.put_host.ensures) c.in-Accepted.is c.put_state.ensures

pub returns-in_default : goal.returns-in_default
returns-in_default c = let made = c.args.made in
    and_refused made.answer _ (state_text made.host) _ (rw c.number.ensures at c.put_host.ensures) c.in_default.not-Accepted
