use Prim.Native.Nat.{◌+◌, ◌*◌, ◌-◌}
use mathlib.Core.Path.{◌≡◌}
use lib.ListN.{drop}
use Rattle.book.specs.Layout.{bad_rows}
use Rattle.book.proofs.layout.rows_are_bad.Given as goal

-- whether a row is bad stands with the rows from k on
abbrev pub invariant-loop-k : goal.invariant-loop-k
invariant-loop-k l = bad_rows l.n (drop 7 l.words) ≡ bad_rows (l.n - l.k) (drop (7 + 4 * l.k) l.words)
