-- A block's words laid over its bytes, block after block.
use Prim.Native.Nat.{ℕ, ◌+◌, ◌*◌, ◌/◌, ◌≤◌, min}
use mathlib.Core.List.{List, [], ◌++◌, append_assoc, append-nil}
use mathlib.Core.Path.{◌≡◌, ap, sym, ◌∙◌}
use native.Mathlib.Omega.{arith}
use lib.ListN.{length, take, drop, length-drop, drop_of_length-le}
use lib.Seq.{take_at, drop_at, take-add, take_all, drop-drop, length-take-le}
use Rattle.types.proofs.Bytes.{bytes-append, length-bytes}
use Rattle.types.specs.Words.{bytes_of, filled}
use Rattle.host.specs.Calls.{blocks_filled}

-- the first k blocks of words, laid over the start of the buffer
abbrev pub laid_blocks : List ℕ → List ℕ → ℕ → List ℕ
laid_blocks words buffer k = bytes_of (take (128 * k) words) ++ drop (512 * k) buffer

-- words that are as many as their bytes have room for
filled-whole : (ws bs : List ℕ) → length ws ≡ 128 → length bs ≡ 512 → filled ws bs ≡ bytes_of ws
unfolding filled
filled-whole ws bs hw hb =
    ap (λ (n : ℕ). bytes_of (take (min n (length bs / 4)) ws) ++ drop (4 * min n (length bs / 4)) bs) hw
    ∙ ap (λ (n : ℕ). bytes_of (take (min 128 (n / 4)) ws) ++ drop (4 * min 128 (n / 4)) bs) hb
    ∙ ap (λ (l : List ℕ). bytes_of l ++ drop 512 bs) (take_all 128 ws (omega arith))
    ∙ ap (λ (l : List ℕ). bytes_of ws ++ l) (drop_of_length-le bs {i = 512} (omega arith))
    ∙ append-nil (bytes_of ws)

module _ (words buffer : List ℕ) (k : ℕ) (hw : 128 * k + 128 ≤ length words) (hb : 512 * k + 512 ≤ length buffer) where
  abbrev block : List ℕ
  block = take 128 (drop (128 * k) words)

  abbrev rest : List ℕ
  rest = drop (512 * k) buffer

  front : length (bytes_of (take (128 * k) words)) ≡ 512 * k
  front = length-bytes (take (128 * k) words) ∙ ap (λ (n : ℕ). 4 * n) (length-take-le (128 * k) words (omega arith)) ∙ omega arith

  pub laid-length : length (laid_blocks words buffer k) ≡ length buffer
  laid-length =
      let parts = lib.ListN.length-append (bytes_of (take (128 * k) words)) rest in
      omega (arith, parts, front, length-drop (512 * k) buffer)

  block-long : length block ≡ 128
  block-long = length-take-le 128 (drop (128 * k) words) (rw length-drop (omega arith))

  room-long : length (take 512 rest) ≡ 512
  room-long = length-take-le 512 rest (rw length-drop (omega arith))

  -- one block more: what comes back where its 512 bytes were lent and filled
  pub next-block : (m n : ℕ) → m ≡ 512 → n ≡ 128 → (ys : List ℕ)
      → ys ≡ filled (take n (drop (128 * k) words)) (take m (drop (512 * k) (laid_blocks words buffer k)))
      → take (512 * k) (laid_blocks words buffer k) ++ (ys ++ drop m (drop (512 * k) (laid_blocks words buffer k))) ≡ laid_blocks words buffer (k + 1)
  next-block m n em en ys e =
      let p = bytes_of (take (128 * k) words) in
      let tail : drop (512 * k) (laid_blocks words buffer k) ≡ rest = drop_at p rest (512 * k) front in
      let bytes : ys ≡ bytes_of block =
      e
      ∙ ap (λ (j : ℕ). filled (take j (drop (128 * k) words)) (take m (drop (512 * k) (laid_blocks words buffer k)))) en
      ∙ ap (λ (j : ℕ). filled block (take j (drop (512 * k) (laid_blocks words buffer k)))) em
      ∙ ap (λ (l : List ℕ). filled block (take 512 l)) tail
      ∙ filled-whole block (take 512 rest) block-long room-long in
      let w : 128 * k + 128 ≡ 128 * (k + 1) = omega arith in
      let b : 512 * k + 512 ≡ 512 * (k + 1) = omega arith in
      ap (λ (l : List ℕ). l ++ (ys ++ drop m (drop (512 * k) (laid_blocks words buffer k)))) (take_at p rest (512 * k) front)
      ∙ ap (λ (l : List ℕ). p ++ (l ++ drop m (drop (512 * k) (laid_blocks words buffer k)))) bytes
      ∙ ap (λ (j : ℕ). p ++ (bytes_of block ++ drop j (drop (512 * k) (laid_blocks words buffer k)))) em
      ∙ ap (λ (l : List ℕ). p ++ (bytes_of block ++ drop 512 l)) tail
      ∙ ap (λ (l : List ℕ). p ++ (bytes_of block ++ l)) (drop-drop 512 (512 * k) buffer ∙ ap (λ (j : ℕ). drop j buffer) b)
      ∙ sym (append_assoc p (bytes_of block) (drop (512 * (k + 1)) buffer))
      ∙ ap (λ (l : List ℕ). l ++ drop (512 * (k + 1)) buffer)
      (sym (bytes-append (take (128 * k) words) block)
      ∙ ap bytes_of (sym (take-add (128 * k) 128 words) ∙ ap (λ (j : ℕ). take j words) w))

-- no word leaves the buffer as it is
pub none_filled : (buffer : List ℕ) → blocks_filled [] buffer ≡ buffer
unfolding blocks_filled bytes_of
none_filled buffer =
    let none : min 0 (length buffer / 512) ≡ 0 = omega arith in
    rw none
