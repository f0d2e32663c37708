-- What lies behind the first words of a script.
use Prim.Native.Nat.{ℕ, zero, suc, ◌+◌, ◌-◌, ◌≤◌, ◌<◌}
use mathlib.Core.List.{List, ◌∷◌}
use mathlib.Core.Path.{◌≡◌, refl, sym, ap, ◌∙◌}
use native.Mathlib.Omega.{arith}
use lib.ListN.{length, get_or, drop, length-drop}
use lib.Seq.{drop-drop, get_or-drop}
use Rattle.tape.specs.Run.{Behind}

-- Its words, by their places in the script.
module _ {n : ℕ} {rest s : List ℕ} (part : Behind n rest s) where
  pub long : length rest ≡ length s - n
  long = ap length part.part ∙ length-drop n s

  pub at_place : (i : ℕ) → get_or s (n + i) 0 ≡ get_or rest i 0
  at_place i = sym (get_or-drop n s i 0) ∙ sym (ap (λ (x : List ℕ). get_or x i 0) part.part)

  pub in_place : (i : ℕ) → i < length rest → n + i < length s
  in_place i h = omega (arith, h, long)

  pub out-of-place : (i : ℕ) → n + i < length s → i < length rest
  out-of-place i h = omega (arith, h, long)

  -- the same from a place in the script that is not before it
  module _ {u : ℕ} (h : n ≤ u) where
    place : n + (u - n) ≡ u
    place = omega (arith, h)

    pub at-used : get_or s u 0 ≡ get_or rest (u - n) 0
    at-used = sym (ap (λ (k : ℕ). get_or s k 0) place) ∙ at_place (u - n)

    pub in_used : u - n < length rest → u < length s
    in_used e = omega (arith, h, e, long)

    pub past-used : length rest ≤ u - n → length s ≤ u
    past-used e = omega (arith, h, e, long)

    pub left-used : length s - u ≡ length rest - (u - n)
    left-used = omega (arith, h, long)

    -- what is left of what is left
    pub further : {rest' : List ℕ} → Behind (u - n) rest' rest → Behind u rest' s
    further inner =
        record { part = inner.part ∙ ap (drop (u - n)) part.part ∙ drop-drop (u - n) n s ∙ ap (λ (k : ℕ). drop k s) place }

-- some script of which r lies behind its first n words
pub behind : ℕ → List ℕ → List ℕ
behind zero r = r
behind (suc n) r = 0 ∷ behind n r

pub is-behind : (n : ℕ) (r : List ℕ) → Behind n r (behind n r)
unfolding behind
is-behind zero r = record { part = refl }
is-behind (suc n) r = record { part = (is-behind n r).part }

-- what holds of every script of which r lies behind the first n words holds: there is one
pub some-script : {P : Type 0} (n : ℕ) (r : List ℕ) → ((s : List ℕ) → Behind n r s → P) → P
some-script n r e = e (behind n r) (is-behind n r)
