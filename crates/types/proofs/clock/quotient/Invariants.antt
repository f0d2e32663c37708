use Prim.Native.Nat.{◌*◌, ◌-◌, ◌^◌, ◌<◌, ◌≤◌}
use Rattle.types.proofs.Quotient.{Divided}
use Rattle.types.proofs.clock.quotient.Given as goal

-- The steps left are counted down from 32, which is the measure too: so many and no more are taken.
abbrev pub invariant-loop-both : goal.invariant-loop-both
invariant-loop-both l = (1 ≤ l.left) × (l.left ≤ 32) × (l.both < l.divisor * 2 ^ 32) × Divided l.number l.divisor (32 - l.left) l.left l.both

abbrev pub decreases-loop-both : goal.decreases-loop-both
decreases-loop-both l = l.left
