-- A list filled place by place with the values of a function.
use Prim.Native.Nat.{ℕ, zero, suc, ◌+◌, ◌<◌}
use mathlib.Core.List.{List, [], ◌∷◌, ◌++◌, map, append_assoc}
use mathlib.Core.Path.{◌≡◌, refl, ap, sym, ◌∙◌}
use native.Mathlib.Nat.{add-zero, not-suc-le-zero, le_of_suc-le-suc}
use native.Mathlib.Numerals.{add-one}
use native.Mathlib.Omega.{arith}
use lib.ListN.{length, get_or, set, take, drop, length-take}
use lib.Seq.{take-suc, drop-cons, set_at}
use Rattle.types.specs.Words.{counted}

pub length-counted : (f : ℕ → ℕ) (a n : ℕ) → length (map f (counted a n)) ≡ n
unfolding counted
length-counted f a zero = refl
length-counted f a (suc n) = ap suc (length-counted f (a + 1) n)

pub get_d_counted : {A : Type 0} (f : ℕ → A) (a n i : ℕ) (d : A) → i < n → get_or (map f (counted a n)) i d ≡ f (a + i)
unfolding counted
get_d_counted f a zero i d h = absurd (not-suc-le-zero h)
get_d_counted f a (suc n) zero d h = rw add-zero
get_d_counted f a (suc n) (suc i) d h =
    get_d_counted f (a + 1) n i d (le_of_suc-le-suc h) ∙ ap f (omega arith)

-- the first i of s, laid over the start of z
abbrev pub over : List ℕ → List ℕ → ℕ → List ℕ
over s z i = take i s ++ drop i z

pub over-more : (s z : List ℕ) (i : ℕ) → i < length s → i < length z → set (over s z i) i (get_or s i 0) ≡ over s z (i + 1)
over-more s z i hs hz =
    ap (λ (l : List ℕ). set (take i s ++ l) i (get_or s i 0)) (drop-cons z i 0 hz)
    ∙ set_at (take i s) (get_or z i 0) (drop (suc i) z) (get_or s i 0) i (rw length-take (omega arith))
    ∙ sym (append_assoc (take i s) (get_or s i 0 ∷ []) (drop (suc i) z))
    ∙ ap (λ (l : List ℕ). l ++ drop (suc i) z) (sym (take-suc s i 0 hs))
    ∙ ap (λ (n : ℕ). over s z n) (sym (add-one i))
