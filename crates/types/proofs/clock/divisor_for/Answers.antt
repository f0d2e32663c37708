use Prim.Native.Nat.{ℕ, suc, ◌+◌, ◌*◌, ◌<◌, ◌≤◌}
use mathlib.Core.Path.{◌≡◌}
use native.Mathlib.Nat.{suc-mul, mul-le-mul_right, le_of_suc-le-suc}
use native.Mathlib.Omega.{arith, not-le}
use Rattle.types.specs.Least.{Enough, Least, Searched}
use Rattle.types.proofs.clock.divisor_for.Goals as goal

-- At each turn the sum and one request more are the divisor's multiple, and past 2 the sum, the multiple before, is below the source.
-- a divisor that is enough is the least where the multiple before is not
first : (s q sum d : ℕ) → 2 ≤ d → d ≤ 257 → sum + q ≡ d * q → (2 < d → sum < s) → s ≤ d * q → Least s q d
first s q sum d from2 to257 multiple low slow =
    record {
      enough = record { from2 = from2; to257 = to257; slow = slow };
      least = λ e h. le_of_suc-le-suc (not-le _ _ (λ more. smaller e h more));
    }
  where
    smaller : (e : ℕ) → Enough s q e → suc e ≤ d → ⊥
    smaller e h more = omega (arith, low (omega (arith, h.from2)), h.slow, suc-mul e q, mul-le-mul_right q more)

-- none is enough where the multiple of 257 is not
none : (s q sum : ℕ) → sum + q ≡ 258 * q → sum < s → (d : ℕ) → Enough s q d → ⊥
none s q sum multiple low d h = omega (arith, h.slow, mul-le-mul_right q h.to257)

pub returns-then-next-gt4294967295 : goal.returns-then-next-gt4294967295
unfolding Searched
returns-then-next-gt4294967295 c = let at = c.loop-divisor in
    first c.args.source.0 c.args.requested.0 at.sum at.divisor (omega arith) (omega arith) at.invariant.0 at.invariant.1 (omega (arith, at.invariant.0))

pub returns-then-source-sum : goal.returns-then-source-sum
unfolding Searched
returns-then-source-sum c = let at = c.loop-divisor in
    first c.args.source.0 c.args.requested.0 at.sum at.divisor (omega arith) (omega arith) at.invariant.0 at.invariant.1 (omega (arith, at.invariant.0))

pub returns : goal.returns
unfolding Searched
returns c = let at = c.loop-divisor in
    let last : at.divisor ≡ 258 = omega arith in
    none c.args.source.0 c.args.requested.0 at.sum (rw last at at.invariant.0) (at.invariant.1 (omega arith))
