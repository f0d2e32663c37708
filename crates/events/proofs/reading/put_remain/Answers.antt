use borrow.Author.Tests.{ne_eqb}
use Rattle.text.proofs.Pens.{and_written}
use Rattle.events.proofs.reading.put_remain.Goals as goal

pub returns-then-n-ne0 : goal.returns-then-n-ne0
returns-then-n-ne0 c = rw (ne_eqb _ _ c.if-n-ne0.true) (and_written _ _ _ (and_written _ _ _ c.put.ensures c.put_counted.ensures) c.put-then-n-ne0.ensures)
