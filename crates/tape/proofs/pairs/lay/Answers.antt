use mathlib.Core.Path.{◌≡◌}
use native.Mathlib.Omega.{arith}
use Rattle.tape.proofs.Converts.{none_over, one-over}
use Rattle.tape.proofs.pairs.lay.Goals as goal

pub loop-k-init : goal.loop-k-init
loop-k-init c = none_over _ _

pub loop-k-preserved : goal.loop-k-preserved
loop-k-preserved c = let rows = c.args.rows.now in
    let target = c.args.target.now in
    rw (c.of-row.ensures, c.loop-k.invariant) (one-over c.loop-k.k rows target (omega (arith, c.requires)) (omega (arith, c.requires)))

pub returns : goal.returns
returns c = let done : c.loop-k.k ≡ c.args.count = omega arith in
    rw done at c.loop-k.invariant
