use Rattle.text.proofs.Pens.{and_written}
use Rattle.report.proofs.state.put_line.Goals as goal

pub returns : goal.returns
returns c = and_written _ _ _ (and_written _ _ _ (and_written _ _ _ c.put_named.ensures c.put_signalling.ensures) c.put_named-2.ensures) c.put_named-3.ensures
