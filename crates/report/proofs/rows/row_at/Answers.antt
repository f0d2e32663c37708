use mathlib.Core.Path.{◌∙◌, ap, sym}
use lib.ListN.{get_or-map, get_or-eq_default}
use Rattle.tape.specs.Layout.{row_of, rows_in}
use Rattle.report.proofs.rows.row_at.Goals as goal

pub returns-then-rows-i : goal.returns-then-rows-i
unfolding rows_in
returns-then-rows-i c = let a = c.args in
    let none = get_or-eq_default a.rows.now 0 c.if-rows-i.true in
    c.of.ensures ∙ ap row_of (sym none) ∙ sym (get_or-map row_of a.rows.now a.i 0)

pub returns : goal.returns
unfolding rows_in
returns c = let a = c.args in
    c.of-2.ensures ∙ sym (get_or-map row_of a.rows.now a.i 0)
