use Rattle.events.specs.Meaning.{row_table, first_line, row_meaning}
use Rattle.text.proofs.Pens.{and_written}
use Rattle.events.proofs.row.put_delay.Goals as goal

pub returns : goal.returns
unfolding row_table first_line row_meaning
returns c = and_written _ _ _ c.put_said.ensures c.put_counted.ensures
