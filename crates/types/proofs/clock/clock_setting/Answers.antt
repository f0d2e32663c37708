use Prim.Native.Nat.{ℕ, zero, suc, ◌*◌, ◌-◌, ◌/◌, ◌≤◌}
use mathlib.Core.Bool.{Bool, false, ◌&&◌}
use mathlib.Core.Path.{◌≡◌, sym, ◌∙◌}
use native.Mathlib.Nat.{mul-zero}
use native.Mathlib.Omega.{arith}
use lib.Dec.{leb}
use borrow.Author.Tests.{ne_eqb, lt-ltb, le-ltb}
use Rattle.std.specs.Prelude.{Option, Some, None, Result, Ok, Err}
use Rattle.types.specs.declared.clock.Clock.{Clock}
use Rattle.types.specs.declared.error.Error.{Error}
use Rattle.types.specs.declared.error.Error.TheVariants.{BadClock}
use Rattle.types.specs.Leaf.{clock_of}
use Rattle.types.specs.Least.{Searched}
use Rattle.types.proofs.Least.{found, over}
use Rattle.types.proofs.clock.clock_setting.Goals as goal

-- a request that a nonzero source comes down to is not 0
asked : (s d q : ℕ) → 1 ≤ s → s ≤ d * q → 1 ≤ q
asked s d zero h slow = absurd (omega (arith, mul-zero d))
asked s d (suc q) h slow = omega arith

-- the answer, of what the search found
answer : ℕ → Option ℕ → Result Clock Error
answer s None = Err BadClock
answer s (Some d) = Ok (record { divisor = d - 2; bypass = false; frequency = record { 0 = s / d } })

-- no divisor brings a source down to 0: such a request is refused with those that are too low
searched : (s q : ℕ) (allowed : Bool) (o : Option ℕ) → 1 ≤ s → q ≤ 80_000_000 → (allowed && leb s q) ≡ false → Searched s q o → clock_of s q allowed ≡ answer s o
unfolding clock_of Searched answer
searched s zero allowed None h high divided never = rw (ne_eqb s 0 (λ e. omega arith))
searched s (suc q) allowed None h high divided never =
    rw (ne_eqb s 0 (λ e. omega arith), ne_eqb (suc q) 0 (λ e. omega arith), le-ltb 80_000_000 (suc q) high, divided, lt-ltb 257 _ (over s (suc q) h (omega arith) high never))
searched s q allowed (Some d) h high divided least =
    let low : 1 ≤ q = asked s d q h least.enough.slow in
    let divisor = found s q h low high d least in
    rw (ne_eqb s 0 (λ e. omega arith), ne_eqb q 0 (λ e. omega arith), le-ltb 80_000_000 q high, divided, ← divisor, le-ltb 257 d least.enough.to257)

pub returns-in_default : goal.returns-in_default
unfolding answer
returns-in_default c =
    let args = c.args in
    let divided : (args.allow_bypass && leb args.source.0 args.requested.0) ≡ false = sym c.may_bypass.ensures ∙ c.if-may_bypass.false in
    sym (searched args.source.0 args.requested.0 args.allow_bypass None (omega arith) c.if-requested-gt-MOST.false divided (rw c.in_default.is at c.divisor_for.ensures))

pub returns : goal.returns
unfolding answer
returns c =
    let args = c.args in
    let divided : (args.allow_bypass && leb args.source.0 args.requested.0) ≡ false = sym c.may_bypass.ensures ∙ c.if-may_bypass.false in
    rw c.quotient.ensures
    (sym (searched args.source.0 args.requested.0 args.allow_bypass (Some c.in-Some.divisor) (omega arith) c.if-requested-gt-MOST.false divided (rw c.in-Some.is at c.divisor_for.ensures)))
