use Rattle.std.proofs.Common.{◌≡◌, ◌*◌, ◌+◌, ◌-◌, refl, ◌∙◌, arith}
use Rattle.types.specs.Words.{bytes_of, filled}
use Rattle.types.proofs.Bytes.{one_more}
use Rattle.types.proofs.words.fill.Goals as goal

pub loop-i-init : goal.loop-i-init
unfolding bytes_of
loop-i-init c = refl

pub loop-i-preserved : goal.loop-i-preserved
loop-i-preserved c = let words = c.args.words.now in
    let bytes = c.args.bytes.now in
    let i = c.loop-i.i in
    let n = c.min-n.ensures in
    rw c.loop-i.invariant
    (one_more words bytes i (omega (arith, n)) (omega (arith, n)) (4 * i + 4 - 4 * i) _ (omega arith) (c.copy_from_slice.ensures.after ∙ c.to_le_bytes.ensures))

pub returns : goal.returns
unfolding filled
returns c = let done : c.loop-i.i ≡ c.min-n.result = omega arith in
    rw (c.loop-i.invariant, done, c.min-n.ensures)
