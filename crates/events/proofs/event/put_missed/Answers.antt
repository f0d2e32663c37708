use Rattle.text.proofs.Pens.{and_written}
use Rattle.events.proofs.event.put_missed.Goals as goal

pub returns : goal.returns
returns c = and_written _ _ _ c.put_kind.ensures c.put.ensures
