use Rattle.text.proofs.Pens.{and_written}
use Rattle.report.proofs.blocks.put_block.Goals as goal

pub returns : goal.returns
returns c = and_written _ _ _ (and_written _ _ _ c.put.ensures c.put_bytes.ensures) c.put_byte.ensures
