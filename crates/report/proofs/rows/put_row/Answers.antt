use Rattle.text.proofs.Pens.{and_written}
use Rattle.report.proofs.rows.put_row.Goals as goal

pub returns : goal.returns
returns c = and_written _ _ _ c.put_named.ensures c.put_named-2.ensures
