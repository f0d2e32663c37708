use borrow.Author.Tests.{eq-eqb, ne_eqb}
use Rattle.events.specs.Meaning.{row_table, first_line, row_meaning}
use Rattle.text.proofs.Pens.{and_written}
use Rattle.events.proofs.row.put_data.Goals as goal

pub returns-then-value-eq1 : goal.returns-then-value-eq1
unfolding row_table first_line row_meaning
returns-then-value-eq1 c =
    rw (eq-eqb _ _ c.if-value-ne1.false, eq-eqb _ _ c.if-value-eq1.true)
    (and_written _ _ _ c.put_said-then-value-eq1.ensures (rw c.block_bytes.ensures at c.put_counted.ensures))

pub returns-else-value-eq1 : goal.returns-else-value-eq1
unfolding row_table first_line row_meaning
returns-else-value-eq1 c =
    rw (eq-eqb _ _ c.if-value-ne1.false, ne_eqb _ _ c.if-value-eq1.false)
    (and_written _ _ _ c.put_said-else-value-eq1.ensures (rw c.block_bytes-else-value-eq1.ensures at c.put_counted-else-value-eq1.ensures))
