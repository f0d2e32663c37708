use mathlib.Core.Path.{◌≡◌}
use Rattle.text.specs.Pens.{written}
use Rattle.tape.specs.Layout.{rows_in}
use Rattle.report.specs.Report.{rows_text}
use Rattle.report.proofs.rows.put_rows.Given as goal

-- the first i rows are written
abbrev pub invariant-loop-i : goal.invariant-loop-i
invariant-loop-i l = l.pen ≡ written (rows_text l.i (rows_in l.rows)) l.fn.pen
