use Prim.Native.Nat.{◌+◌, ◌*◌, ◌-◌}
use mathlib.Core.Path.{◌≡◌, refl}
use native.Mathlib.Omega.{arith}
use Rattle.types.specs.Words.{bytes_of}
use Rattle.host.specs.Calls.{blocks_filled}
use Rattle.host.proofs.Laying.{next-block}
use Rattle.host.proofs.blocks.fill_blocks.Goals as goal

pub loop-k-init : goal.loop-k-init
unfolding bytes_of
loop-k-init c = refl

pub loop-k-preserved : goal.loop-k-preserved
loop-k-preserved c = let words = c.args.words.now in
    let buffer = c.args.buffer.now in
    let k = c.loop-k.k in
    let n = c.min-blocks.ensures in
    let lent : 512 * k + 512 - 512 * k ≡ 512 = omega arith in
    let read : 128 * k + 128 - 128 * k ≡ 128 = omega arith in
    rw c.loop-k.invariant (next-block words buffer k (omega (arith, n)) (omega (arith, n)) _ _ lent read _ (rw c.loop-k.invariant at c.fill.ensures))

pub returns : goal.returns
unfolding blocks_filled
returns c = let done : c.loop-k.k ≡ c.min-blocks.result = omega arith in
    rw (c.loop-k.invariant, done, c.min-blocks.ensures)
