use Rattle.text.proofs.Pens.{and_written}
use Rattle.report.proofs.record.put_number.Goals as goal

pub returns : goal.returns
returns c = and_written _ _ _ c.put_byte.ensures c.put_hex.ensures
