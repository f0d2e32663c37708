use Prim.Native.Nat.{ℕ, ◌*◌, min}
use mathlib.Core.List.{List, ◌++◌, append-nil}
use mathlib.Core.Path.{◌≡◌, ap, sym, ◌∙◌}
use lib.ListN.{length, take, drop, replicate}
use lib.Seq.{take_all}
use native.Mathlib.Omega.{arith}
use Rattle.types.specs.Words.{bytes_of, filled}
use borrow.Author.Rules.{rules}
use Rattle.types.proofs.words.status_bytes.Goals as goal

-- sixteen words fill sixty-four bytes
full : (words : List ℕ) → length words ≡ 16 → filled words (replicate 64 0) ≡ bytes_of words
unfolding filled
full words h =
    ap (λ (n : ℕ). bytes_of (take (min n 16) words) ++ drop (4 * min n 16) (replicate 64 0)) h
    ∙ append-nil (bytes_of (take 16 words))
    ∙ ap bytes_of (take_all 16 words (omega arith))

pub returns : goal.returns
returns c = let words = c.args.words in
    let sixteen : 16 ≡ length words = search rules in
    c.fill.ensures ∙ full words (sym sixteen)
