use Prim.Native.Nat.{ℕ, ◌+◌, ◌*◌, ◌-◌, ◌/◌}
use mathlib.Core.Path.{◌≡◌, ap}
use native.Mathlib.Nat.{zero-add}
use native.Mathlib.Omega.{arith}
use lib.ListN.{length, take, drop}
use Rattle.types.specs.Words.{words_of}
use Rattle.tape.specs.Steps.{send_from}
use Rattle.tape.proofs.Sending.{sent-joined, block_went}
use Rattle.tape.proofs.Took.{gives, next, cut}
use Rattle.tape.proofs.send.send_data.Goals as goal

pub loop-k-init : goal.loop-k-init
unfolding send_from
loop-k-init c = λ s. gives

-- what is left after the block that stopped is not sent
pub returns-in_err-send_block : goal.returns-in_err-send_block
returns-in_err-send_block c = let bytes = c.args.data.now in
    let ws = words_of bytes in
    let k = c.loop-k.k in
    let rest = 128 * (length bytes / 512 - (k + 1)) in
    let all : 128 * (length bytes / 512) ≡ 128 * k + (128 + rest) = omega (arith, c.loop-k-test.true) in
    let lent : 512 * k + 512 - 512 * k ≡ 512 = omega arith in
    λ s. rw (all, sent-joined ws 0 (128 * k) (128 + rest), zero-add (128 * k), sent-joined ws (128 * k) 128 rest)
    (next (c.loop-k.invariant s)
    (cut _ (block_went bytes k (c.in_err-send_block.ensures s) (ap (λ (m : ℕ). take m (drop (512 * k) bytes)) lent) (omega (arith, c.loop-k-test.true))) c.from_residual.ensures.1))

pub loop-k-preserved : goal.loop-k-preserved
loop-k-preserved c = let bytes = c.args.data.now in
    let ws = words_of bytes in
    let k = c.loop-k.k in
    let more : 128 * (k + 1) ≡ 128 * k + 128 = omega arith in
    let lent : 512 * k + 512 - 512 * k ≡ 512 = omega arith in
    λ s. rw (more, sent-joined ws 0 (128 * k) 128, zero-add (128 * k))
    (next (c.loop-k.invariant s)
    (block_went bytes k (c.in_ok-send_block.ensures s) (ap (λ (m : ℕ). take m (drop (512 * k) bytes)) lent) (omega (arith, c.loop-k-test.true))))
