use mathlib.Core.Path.{sym}
use native.Mathlib.Omega.{arith}
use borrow.Author.Tests.{ne_eqb}
use Rattle.text.proofs.Pens.{written_nothing}
use Rattle.events.specs.Meaning.{row_table, first_line, row_meaning}
use Rattle.events.proofs.row.put_meaning.Goals as goal

pub returns-in_default : goal.returns-in_default
unfolding row_table first_line row_meaning
returns-in_default c =
    rw (ne_eqb c.args.register 1 (omega arith), ne_eqb c.args.register 2 (omega arith), ne_eqb c.args.register 3 (omega arith), ne_eqb c.args.register 4 (omega arith), ne_eqb c.args.register 5 (omega arith), ne_eqb c.args.register 6 (omega arith), ne_eqb c.args.register 7 (omega arith), ne_eqb c.args.register 8 (omega arith), ne_eqb c.args.register 9 (omega arith), ne_eqb c.args.register 11 (omega arith), ne_eqb c.args.register 12 (omega arith))
    (sym (written_nothing _))
