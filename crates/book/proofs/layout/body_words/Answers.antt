use Prim.Native.Nat.{◌+◌, ◌*◌}
use mathlib.Core.Path.{sym, ap, ◌∙◌}
use native.Mathlib.Nat.{add_assoc}
use native.Mathlib.Omega.{arith}
use lib.ListN.{drop}
use Rattle.book.specs.declared.layout.Asked.{Asked}
use Rattle.book.proofs.Rows.{words_step, words-none}
use Rattle.book.proofs.layout.body_words.Goals as goal

pub loop-k-preserved : goal.loop-k-preserved
loop-k-preserved c = let args = c.args in
    let len = ap (λ (x : Asked). x.body_len) c.call_at-sum.ensures in
    let step = words_step args.words.now c.loop-k.k args.n (omega arith) in (
      rw len (c.loop-k.invariant.0 ∙ rw step (sym (add_assoc _ _ _))),
      omega (arith, len, c.type_inv.words (7 + 4 * c.loop-k.k + 3)),
    )

pub returns : goal.returns
returns c = omega (arith, c.loop-k.invariant.0, words-none (drop (7 + 4 * c.loop-k.k) c.args.words.now) c.args.n c.loop-k.k (omega arith))
