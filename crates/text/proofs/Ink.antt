-- Laws of inking: by stores one after the other; one text after another is both as one.
use Prim.Native.Nat.{ℕ, zero, suc, ◌+◌, ◌-◌, ◌≤◌, ◌<◌, min}
use mathlib.Core.List.{List, [], ◌∷◌, ◌++◌}
use mathlib.Core.Path.{◌≡◌, refl, ap, sym, ◌∙◌}
use native.Mathlib.Nat.{add-zero, zero-add, suc-add, add-suc, suc-sub-suc, sub-zero, zero-sub}
use native.Mathlib.Omega.{arith}
use native.Mathlib.Numerals.{add-one}
use lib.ListN.{length, get_or, take, set, length-append, length-take, drop_of_length-le}
use lib.Seq.{take-suc, take_all, take-take, sets, length-sets, set_out, take-nil, drop-nil}
use mathlib.Core.Logic.{⊎_elim}
use Rattle.text.proofs.Orders.{either}
use Rattle.text.specs.Ink.{inked, next, Laid}

-- stores behind the first element
sets_cons : (x : ℕ) (xs : List ℕ) (i : ℕ) (vs : List ℕ) → sets (x ∷ xs) (suc i) vs ≡ x ∷ sets xs i vs
sets_cons x xs i [] = refl
sets_cons x xs i (v ∷ vs) = sets_cons x (set xs i v) (suc i) vs

sets_nil : (i : ℕ) (vs : List ℕ) → ◌≡◌ {A = List ℕ} (sets [] i vs) []
sets_nil i [] = refl
sets_nil i (v ∷ vs) = sets_nil (suc i) vs

-- inking is storing byte after byte
pub ink_sets : (at : ℕ) (text buffer : List ℕ) → inked at text buffer ≡ sets buffer at text
unfolding inked
ink_sets at text [] = simp (take-nil, drop-nil, zero-sub, sets_nil)
ink_sets zero [] (x ∷ xs) = rw take-nil
ink_sets zero (t ∷ ts) (x ∷ xs) = rw (zero-add, sub-zero) (ap (λ (l : List ℕ). t ∷ l) (simp (zero-add, sub-zero) at (ink_sets zero ts xs)) ∙ sym (sets_cons t xs zero ts))
ink_sets (suc at) text (x ∷ xs) = rw (suc-sub-suc, suc-add, sets_cons) (ap (λ (l : List ℕ). x ∷ l) (ink_sets at text xs))

-- the pen takes no room, and no text changes nothing
pub ink_length : (at : ℕ) (text buffer : List ℕ) → length (inked at text buffer) ≡ length buffer
ink_length at text buffer = rw ink_sets (length-sets buffer at text)

pub ink_nil : (at : ℕ) (buffer : List ℕ) → inked at [] buffer ≡ buffer
ink_nil at buffer = ink_sets at [] buffer

pub next_nil : (at : ℕ) (buffer : List ℕ) → next at [] buffer ≡ min at (length buffer)
unfolding next
next_nil at buffer = rw add-zero

-- no text is laid in: the pen stands at its place, or at the end where that is past it
pub nothing : {at place : ℕ} {buffer : List ℕ} → place ≡ min at (length buffer) → Laid at [] buffer place buffer
nothing {at} {place} {buffer} e = record { placed = e ∙ sym (next_nil at buffer); laid = sym (ink_nil at buffer) }

-- past the end nothing is stored
sets_out : (vs l : List ℕ) (i : ℕ) → length l ≤ i → sets l i vs ≡ l
sets_out [] l i h = refl
sets_out (v ∷ vs) l i h = rw (set_out l i v h) (sets_out vs l (suc i) (omega arith))

sets_append : (us vs l : List ℕ) (i : ℕ) → sets l i (us ++ vs) ≡ sets (sets l i us) (i + length us) vs
sets_append [] vs l i = rw add-zero
sets_append (u ∷ us) vs l i = rw (add-suc, ← suc-add) (sets_append us vs (set l i u) (suc i))

-- stores from the place of a pen that stops at the end
sets_stopped : (vs l : List ℕ) (i : ℕ) → sets l (min i (length l)) vs ≡ sets l i vs
sets_stopped vs l i =
    ⊎_elim (λ (h : i ≤ length l). ap (λ (k : ℕ). sets l k vs) (omega arith))
    (λ (h : length l < i). ap (λ (k : ℕ). sets l k vs) (omega arith) ∙ sets_out vs l (length l) (omega arith) ∙ sym (sets_out vs l i (omega arith)))
    (either i (length l))

-- ONE TEXT AFTER ANOTHER IS BOTH AS ONE: what the buffer holds, and where the pen stands
module _ (at : ℕ) (us vs buffer : List ℕ) where
  pub ink_append : inked (next at us buffer) vs (inked at us buffer) ≡ inked at (us ++ vs) buffer
  unfolding next
  ink_append =
      rw (ink_sets (min (at + length us) (length buffer)) vs (inked at us buffer), ink_sets at us buffer, ink_sets at (us ++ vs) buffer, sets_append, ← length-sets buffer at us)
      (sets_stopped vs (sets buffer at us) (at + length us))

  pub next-append : next (next at us buffer) vs (inked at us buffer) ≡ next at (us ++ vs) buffer
  unfolding next
  next-append = rw (ink_length, length-append) (omega arith)

-- a byte more
pub take_more : (text : List ℕ) (i : ℕ) → i < length text → take i text ++ (get_or text i 0 ∷ []) ≡ take (i + 1) text
take_more text i h = rw (add-one, take-suc text i 0)

pub ink_more : (at : ℕ) (text buffer : List ℕ) (i : ℕ) → i < length text → inked (next at (take i text) buffer) (get_or text i 0 ∷ []) (inked at (take i text) buffer) ≡ inked at (take (i + 1) text) buffer
ink_more at text buffer i h = ink_append at (take i text) (get_or text i 0 ∷ []) buffer ∙ ap (λ (l : List ℕ). inked at l buffer) (take_more text i h)

-- what does not fit may be cut off before
pub ink_cut : (at : ℕ) (text buffer : List ℕ) → inked at (take (length buffer - at) text) buffer ≡ inked at text buffer
unfolding inked
ink_cut at text buffer =
    let k = length buffer - at in
    ⊎_elim (λ (h : length text ≤ k). rw (take_all k text h, take_all k text h))
    (λ (h : k < length text).
    let cut : length (take k text) ≡ k = rw length-take (omega arith) in
    rw (take-take k k text (omega arith), cut, drop_of_length-le buffer {i = at + k} (omega arith), drop_of_length-le buffer {i = at + length text} (omega arith)))
    (either (length text) k)

-- a text after a text, of what the pen laid in
pub and_then : {at : ℕ} {us before : List ℕ} {place : ℕ} {between vs : List ℕ} {place' : ℕ} {after : List ℕ} → Laid at us before place between → Laid place vs between place' after → Laid at (us ++ vs) before place' after
and_then {at} {us} {before} {place} {between} {vs} p q =
    record {
      placed = q.placed ∙ rw (p.placed, p.laid) (next-append at us vs before);
      laid = q.laid ∙ rw (p.placed, p.laid) (ink_append at us vs before);
    }

-- the pen stands within the buffer
pub stands-within : {at : ℕ} {text before : List ℕ} {place : ℕ} {after : List ℕ} → Laid at text before place after → place ≤ length after
unfolding next
stands-within l = rw (l.laid, ink_length) (rw l.placed (omega arith))
