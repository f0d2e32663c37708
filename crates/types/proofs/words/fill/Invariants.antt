use mathlib.Core.Path.{◌≡◌}
use Rattle.types.proofs.Bytes.{laid}
use Rattle.types.proofs.words.fill.Given as goal

abbrev pub invariant-loop-i : goal.invariant-loop-i
invariant-loop-i l = l.bytes ≡ laid l.words l.initial.bytes l.i
