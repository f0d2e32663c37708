use mathlib.Core.Path.{sym}
use borrow.Author.Tests.{eq-eqb, ne_eqb}
use Rattle.text.proofs.Pens.{written_nothing}
use Rattle.events.specs.Meaning.{reading_meaning}
use Rattle.text.proofs.Pens.{and_written}
use Rattle.events.proofs.reading.put_count.Goals as goal

pub returns-then-word-ne0 : goal.returns-then-word-ne0
unfolding reading_meaning
returns-then-word-ne0 c = rw (ne_eqb _ _ c.if-word-ne0.true) (and_written _ _ _ (and_written _ _ _ c.put.ensures c.put_counted.ensures) c.put-then-word-ne0.ensures)

pub returns-else-word-ne0 : goal.returns-else-word-ne0
unfolding reading_meaning
returns-else-word-ne0 c = rw (eq-eqb _ _ c.if-word-ne0.false) (sym (written_nothing _))
