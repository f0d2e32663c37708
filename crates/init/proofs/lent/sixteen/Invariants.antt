use mathlib.Core.Path.{◌≡◌}
use Rattle.types.proofs.Counted.{over}
use Rattle.init.specs.Lent.{sixteen_of}
use Rattle.init.proofs.lent.sixteen.Given as goal

abbrev pub invariant-loop-k : goal.invariant-loop-k
invariant-loop-k l = l.first ≡ over (sixteen_of l.words) l.initial.first l.k
