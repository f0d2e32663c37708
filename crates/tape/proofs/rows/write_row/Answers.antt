use borrow.Author.Tests.{le-ltb, lt-ltb}
use native.Mathlib.Omega.{arith}
use lib.ListN.{length}
use Rattle.tape.specs.declared.rows.Row.{Row}
use Rattle.tape.specs.Run.{run}
use Rattle.tape.specs.Steps.{row}
use Rattle.tape.proofs.Layouts.{Fits, row-stored, rows_long}
use Rattle.tape.proofs.Took.{took}
use Rattle.tape.proofs.rows.write_row.Goals as goal

pub returns-then-head-rows : goal.returns-then-head-rows
unfolding run row
returns-then-head-rows c = let a = c.args in
    let written : Row = record { register = a.register; value = a.value } in
    let fits : Fits written = omega (arith, c.ranges.value) in
    λ s. took (rw (c.noted-head.ensures, c.word.ensures, row-stored a.rows.now a.head.now.rows written fits, rows_long a.rows.now, lt-ltb a.head.now.rows (length a.rows.now) c.if-head-rows.true))

pub returns-else-head-rows : goal.returns-else-head-rows
unfolding run row
returns-else-head-rows c = λ s. took (rw (rows_long _, le-ltb _ _ c.if-head-rows.false))
