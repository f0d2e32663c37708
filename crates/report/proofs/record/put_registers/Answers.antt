use Rattle.text.proofs.Pens.{and_written}
use Rattle.report.proofs.record.put_registers.Goals as goal

pub returns : goal.returns
returns c = and_written _ _ _ (and_written _ _ _ c.put_wide.ensures c.put_wide-2.ensures) c.put_number.ensures
