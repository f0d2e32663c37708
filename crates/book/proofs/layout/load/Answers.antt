use Prim.Native.Nat.{◌*◌}
use mathlib.Core.Path.{◌≡◌, refl, sym, ◌∙◌}
use native.Mathlib.Omega.{arith}
use lib.ListN.{length-set}
use Rattle.text.specs.Ink.{next}
use Rattle.text.proofs.Ink.{ink_nil}
use Rattle.types.specs.Words.{words_of}
use Rattle.types.proofs.Back.{length-words, word_at, word-is}
use Rattle.book.proofs.Load.{store, stored}
use Rattle.book.proofs.layout.load.Goals as goal

pub loop-i-init : goal.loop-i-init
loop-i-init c = (sym (ink_nil 0 _), refl)

pub loop-i-preserved : goal.loop-i-preserved
loop-i-preserved c = let args = c.args in
    let bytes = args.bytes.now in
    let word : c.from_le_bytes.result ≡ word_at bytes (4 * c.loop-i.i) = omega (arith, c.from_le_bytes.ensures) in
    let value = word ∙ sym (word-is c.loop-i.i bytes (omega (arith, c.min-n.ensures))) in (
      rw (c.loop-i.invariant.0, value) (store (words_of bytes) args.words.now c.loop-i.i (rw length-words (omega (arith, c.min-n.ensures))) (omega (arith, c.min-n.ensures))),
      simp length-set c.loop-i.invariant.1,
    )

pub returns : goal.returns
unfolding next
returns c = let args = c.args in
    let n = c.min-n.ensures in
    let count = length-words args.bytes.now in
    let done : c.loop-i.i ≡ c.min-n.result = omega arith in
    record {
      placed = rw count (omega (arith, n));
      laid = rw (c.loop-i.invariant.0, done) (stored (words_of args.bytes.now) args.words.now c.min-n.result (rw count (omega (arith, n))));
    }
