use mathlib.Core.Path.{◌≡◌}
use Rattle.tape.specs.Layout.{rows_in, pairs_over}
use Rattle.tape.proofs.pairs.lay.Given as goal

abbrev pub invariant-loop-k : goal.invariant-loop-k
invariant-loop-k l = l.target ≡ pairs_over l.k (rows_in l.rows) l.initial.target
