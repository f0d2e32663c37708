use Rattle.text.proofs.Pens.{and_written}
use Rattle.events.proofs.said.put_said.Goals as goal

pub returns : goal.returns
returns c = and_written _ _ _ c.put.ensures c.put-2.ensures
