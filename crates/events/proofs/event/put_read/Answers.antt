use Rattle.text.proofs.Pens.{and_written}
use Rattle.events.proofs.event.put_read.Goals as goal

pub returns : goal.returns
returns c = and_written _ _ _ (and_written _ _ _ (and_written _ _ _ c.put_kind.ensures c.put_word.ensures) c.put_meaning.ensures) c.put_byte.ensures
