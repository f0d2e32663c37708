use Rattle.text.proofs.Pens.{and_written}
use Rattle.report.proofs.state.put_held.Goals as goal

pub returns-then-known : goal.returns-then-known
returns-then-known c = rw c.if-known.true (and_written _ _ _ c.put.ensures c.put_record.ensures)

pub returns-else-known : goal.returns-else-known
returns-else-known c = rw c.if-known.false (and_written _ _ _ c.put.ensures c.put-else-known.ensures)
