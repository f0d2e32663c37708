-- Words out of bytes, laid into a list one after the other.
use Prim.Native.Nat.{ℕ, ◌+◌, ◌-◌, ◌/◌, ◌≤◌, ◌<◌, min}
use mathlib.Core.List.{List, [], ◌∷◌}
use mathlib.Core.Logic.{⊎_elim}
use mathlib.Core.Path.{◌≡◌, sym, ◌∙◌}
use native.Mathlib.Nat.{zero-add, sub-zero}
use native.Mathlib.Omega.{arith}
use lib.ListN.{length, get_or, set, take, drop, length-take}
use lib.Seq.{take_all, take-append_seam}
use Rattle.text.specs.Ink.{inked, next}
use Rattle.text.proofs.Ink.{ink_sets, ink_length, ink_more, ink_cut}
use Rattle.text.proofs.Orders.{either}
use Rattle.types.specs.Words.{words_of}
use Rattle.types.proofs.Back.{length-words}

module _ (text buffer : List ℕ) where
  -- a store more
  pub store : (i : ℕ) → i < length text → i < length buffer → set (inked 0 (take i text) buffer) i (get_or text i 0) ≡ inked 0 (take (i + 1) text) buffer
  unfolding next
  store i h k =
      let place : min (0 + length (take i text)) (length buffer) ≡ i = rw length-take (omega arith) in
      sym (ink_sets i (get_or text i 0 ∷ []) (inked 0 (take i text) buffer)) ∙ rw place at (ink_more 0 text buffer i h)

  -- as many as fit are all
  pub stored : (n : ℕ) → n ≡ min (length text) (length buffer) → inked 0 (take n text) buffer ≡ inked 0 text buffer
  stored n e =
      ⊎_elim (λ (h : length text ≤ length buffer). rw (take_all n text (omega arith)))
      (λ (h : length buffer < length text).
      let all : n ≡ length buffer - 0 = omega arith in
      rw all (ink_cut 0 text buffer))
      (either (length text) (length buffer))

  -- and where all fit, they are the first of the list
  pub loaded : length text ≤ length buffer → take (length text) (inked 0 text buffer) ≡ text
  unfolding inked
  loaded h = rw (zero-add, sub-zero, take_all (length buffer) text h) (take-append_seam text (drop (length text) buffer))

-- what loading leaves
module _ (bytes words last : List ℕ) (n : ℕ) (e : n ≡ next 0 (words_of bytes) words) (f : last ≡ inked 0 (words_of bytes) words) where
  pub counted : n ≡ min (length bytes / 4) (length words)
  unfolding next
  counted = e ∙ rw (zero-add, length-words)

  pub kept : length last ≡ length words
  kept = rw f (ink_length 0 (words_of bytes) words)

  pub book-words : length bytes / 4 ≤ n → take n last ≡ words_of bytes
  book-words h =
      let all : n ≡ length (words_of bytes) = rw length-words (omega (arith, counted)) in
      rw (f, all) (loaded (words_of bytes) words (rw length-words (omega (arith, counted))))
