-- Places, byte by byte.
use Prim.Native.Nat.{ℕ, ◌+◌, ◌<◌, ◌≤◌, min}
use mathlib.Core.Bool.{Bool, true, false, cond}
use mathlib.Core.List.{List, [], ◌∷◌, ◌++◌}
use mathlib.Core.Path.{◌≡◌, refl, ap, ◌∙◌}
use Rattle.std.proofs.lemmas.List.{take_min}
use native.Mathlib.Numerals.{add-one}
use native.Mathlib.Omega.{arith}
use lib.Dec.{eqb}
use lib.ListN.{length, get_or, take}
use lib.Seq.{take-suc, take_all}
use Rattle.wordtext.specs.declared.place.Place.{Place}
use Rattle.wordtext.specs.Token.{NEWLINE}
use Rattle.wordtext.specs.Text.{moved, place_from, place_of}

-- the place after one byte more
from_more : (p : Place) (xs : List ℕ) (b : ℕ) → place_from p (xs ++ b ∷ []) ≡ moved (place_from p xs) b
unfolding place_from
from_more p [] b = refl
from_more p (x ∷ xs) b = from_more (moved p x) xs b

pub place-more : (text : List ℕ) (i : ℕ) → i < length text → place_of text (i + 1) ≡ moved (place_of text i) (get_or text i 0)
unfolding place_of
place-more text i h = rw (add-one, take-suc text i 0 h) (from_more _ (take i text) (get_or text i 0))

-- the place behind the bytes before `at`, of which there are no more than the text has
pub place-cut : (text : List ℕ) (at end i : ℕ) → end ≡ min at (length text) → length (take end text) ≤ i → place_of (take end text) i ≡ place_of text at
unfolding place_of
place-cut text at end i e h =
    let all : take i (take end text) ≡ take end text = take_all i (take end text) h in
    let cut : take end text ≡ take at text = ap (λ (n : ℕ). take n text) e ∙ take_min at text in
    ap (place_from (record { line = 1; column = 1 })) (all ∙ cut)

-- a byte moves line and column by at most one
pub moved_little : (p : Place) (b k : ℕ) → p.line ≤ k → p.column ≤ k → 1 ≤ k → ((moved p b).line ≤ k + 1) × ((moved p b).column ≤ k + 1)
moved_little p b k line column one = by (eqb b NEWLINE)
  where
    by : (t : Bool)
        → ((cond {A = Place} t (record { line = p.line + 1; column = 1 }) (record { line = p.line; column = p.column + 1 })).line ≤ k + 1)
        × ((cond {A = Place} t (record { line = p.line + 1; column = 1 }) (record { line = p.line; column = p.column + 1 })).column ≤ k + 1)
    by true = (omega arith, omega arith)
    by false = (omega arith, omega arith)
