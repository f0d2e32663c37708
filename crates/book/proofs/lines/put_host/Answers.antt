use Rattle.text.proofs.Pens.{and_written}
use Rattle.book.proofs.lines.put_host.Goals as goal

pub returns : goal.returns
returns c = and_written _ _ _ c.put_named.ensures c.put_byte.ensures
