use mathlib.Core.Path.{◌≡◌}
use Rattle.types.specs.Words.{words_of}
use Rattle.tape.specs.Layout.{rows_in, sent_over}
use Rattle.tape.proofs.send.lay.Given as goal

abbrev pub invariant-loop-i : goal.invariant-loop-i
invariant-loop-i l = rows_in l.rows ≡ sent_over (words_of l.bytes) 0 l.i l.place (rows_in l.initial.rows)
