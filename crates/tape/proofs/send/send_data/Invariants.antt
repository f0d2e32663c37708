use Prim.Native.Nat.{ℕ, ◌*◌}
use mathlib.Core.List.{List}
use Rattle.std.specs.Prelude.{Ok}
use Rattle.types.specs.Words.{words_of}
use Rattle.tape.specs.Layout.{rows_in}
use Rattle.tape.specs.Run.{Went}
use Rattle.tape.specs.Steps.{send_words}
use Rattle.tape.proofs.send.send_data.Given as goal

abbrev pub invariant-loop-k : goal.invariant-loop-k
invariant-loop-k l = (s : List ℕ) → Went s (send_words (words_of l.data) (128 * l.k)) l.initial.head (rows_in l.initial.rows) (Ok tt) l.head (rows_in l.rows)
