use Rattle.report.specs.Report.{record_text}
use Rattle.text.proofs.Pens.{and_written}
use Rattle.report.proofs.record.put_record.Goals as goal

pub returns : goal.returns
unfolding record_text
returns c = and_written _ _ _ (and_written _ _ _ (and_written _ _ _ c.put_identity.ensures c.put_registers.ensures) c.put_contents.ensures) (rw c.number.ensures at c.put_named.ensures)
