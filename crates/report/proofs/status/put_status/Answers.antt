use Rattle.text.proofs.Pens.{and_written}
use Rattle.report.proofs.status.put_status.Goals as goal

pub returns : goal.returns
returns c = and_written _ _ _ (and_written _ _ _ c.put.ensures c.put_words.ensures) c.put_byte.ensures
