use mathlib.Core.Path.{sym}
use Rattle.bench.specs.Trace.{calls_served}
use Rattle.bench.proofs.Hosts.{none_served}
use Rattle.bench.proofs.trace.served.Goals as goal

pub returns-in-Accepted : goal.returns-in-Accepted
unfolding calls_served
returns-in-Accepted c = rw c.in-Accepted.is

pub returns-in_default : goal.returns-in_default
returns-in_default c = sym (none_served c.args.answer c.args.calls c.in_default.not-Accepted)
