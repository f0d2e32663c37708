use Rattle.text.proofs.Pens.{and_written}
use Rattle.report.proofs.rows.put_line.Goals as goal

pub returns : goal.returns
returns c = and_written _ _ _ c.put_row.ensures c.put_byte.ensures
