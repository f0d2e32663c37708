use mathlib.Core.Path.{refl, ap}
use native.Mathlib.Nat.{sub-zero}
use native.Mathlib.Omega.{arith}
use Rattle.meter.specs.Metered.{Served}
use Rattle.meter.proofs.Served.{next-served, all-served}
use borrow.Author.Rules.{rules}
use Rattle.meter.proofs.serve_calls.Goals as goal

pub loop-k-init : goal.loop-k-init
loop-k-init g c = (record { within = omega arith; rest = rw (c.contents.ensures, sub-zero) }, (refl, refl))

pub loop-k-preserved : goal.loop-k-preserved
loop-k-preserved g c = let done = c.serve_call-turn.ensures in (
  next-served c.loop-k.invariant.0 c.loop-k-test.true done.passed done.served,
  (search rules, search rules),
)

pub returns : goal.returns
returns g c = let all = all-served c.loop-k.invariant.0 c.loop-k-test.false in
    record { told = ap (λ (x : Served). x.told) all; listed = ap (λ (x : Served). x.list) all; filled = ap (λ (x : Served). x.buffer) all }
