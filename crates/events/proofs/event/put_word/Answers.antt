use Rattle.text.proofs.Pens.{and_written}
use Rattle.events.proofs.event.put_word.Goals as goal

pub returns : goal.returns
returns c = and_written _ _ _ c.put.ensures c.put_hex.ensures
