use borrow.Author.Tests.{eq-eqb}
use Rattle.events.specs.Meaning.{row_table, first_line, row_meaning}
use Rattle.text.proofs.Pens.{and_written}
use Rattle.events.proofs.row.put_command.Goals as goal

pub returns-then-value-eq1 : goal.returns-then-value-eq1
unfolding row_table first_line row_meaning
returns-then-value-eq1 c = rw (eq-eqb _ _ c.if-value-eq1.true) (and_written _ _ _ c.put_named.ensures c.put_wait.ensures)
