use Rattle.report.specs.Report.{state_text}
use Rattle.text.proofs.Pens.{and_written}
use Rattle.report.proofs.state.put_state.Goals as goal

pub returns : goal.returns
unfolding state_text
returns c = and_written _ _ _ (and_written _ _ _ c.put_line.ensures c.put_held.ensures) c.put_byte.ensures
