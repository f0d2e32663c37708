use Rattle.events.specs.Meaning.{reading_meaning}
use Rattle.text.proofs.Pens.{and_written}
use Rattle.events.proofs.reading.put_dma.Goals as goal

pub returns : goal.returns
unfolding reading_meaning
returns c = and_written _ _ _ c.put_channel.ensures c.put_remain.ensures
