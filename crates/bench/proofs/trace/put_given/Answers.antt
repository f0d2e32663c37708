use mathlib.Core.Path.{sym}
use Rattle.text.proofs.Pens.{written_nothing}
use Rattle.bench.specs.Bench.{where_accepted}
use Rattle.bench.specs.Trace.{kind_text}
use Rattle.bench.proofs.Hosts.{refused}
use Rattle.bench.proofs.trace.put_given.Goals as goal

pub returns-in-Accepted : goal.returns-in-Accepted
unfolding where_accepted
returns-in-Accepted c = rw c.in-Accepted.is c.put_kind.ensures

pub returns-in_default : goal.returns-in_default
returns-in_default c =
    let args = c.args in
    rw (refused args.answer (kind_text args.kind args.host args.count args.buffer.now) c.in_default.not-Accepted) (sym (written_nothing _))
