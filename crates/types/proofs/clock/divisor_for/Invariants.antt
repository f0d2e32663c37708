use Prim.Native.Nat.{◌+◌, ◌*◌, ◌<◌}
use mathlib.Core.Path.{◌≡◌}
use Rattle.types.proofs.clock.divisor_for.Given as goal

abbrev pub invariant-loop-divisor : goal.invariant-loop-divisor
invariant-loop-divisor l = (l.sum + l.requested.0 ≡ l.divisor * l.requested.0) × (2 < l.divisor → l.sum < l.source.0)
