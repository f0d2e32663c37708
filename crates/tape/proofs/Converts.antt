-- Rows in 32-bit words: what a conversion leaves in its target.
use Prim.Native.Nat.{ℕ, suc, ◌+◌, ◌*◌, ◌<◌, ◌≤◌}
use mathlib.Core.Path.{◌≡◌, refl, ap, sym, ◌∙◌}
use mathlib.Core.List.{List, [], ◌∷◌, ◌++◌, append_assoc}
use native.Mathlib.Omega.{arith}
use lib.ListN.{length, get_or, take, drop, set, get_or-map}
use lib.Seq.{length-take-le, take_at, take-suc, drop-cons, set_at}
use Rattle.tape.specs.declared.rows.Row.{Row}
use Rattle.tape.specs.Layout.{row_of, rows_in, pairs_of, rows_of_pairs, pairs_over}
use Rattle.tape.proofs.Layouts.{pair_rows_back, pairs_long, rows_long}

rows_in_pairs : (n : ℕ) (l : List Row) → n ≤ length l → length (pairs_of (take n l)) ≡ 2 * n
rows_in_pairs n l h = pairs_long (take n l) ∙ ap (λ (k : ℕ). 2 * k) (length-take-le n l h)

-- It tells the rows that were asked for.
pub told_over : (n : ℕ) (l : List Row) (t : List ℕ) → n ≤ length l → rows_of_pairs (take (2 * n) (pairs_over n l t)) ≡ take n l
unfolding pairs_over
told_over n l t h =
    ap rows_of_pairs (take_at (pairs_of (take n l)) (drop (2 * n) t) (2 * n) (rows_in_pairs n l h)) ∙ pair_rows_back (take n l)

-- row by row: none at first
pub none_over : (l : List Row) (t : List ℕ) → t ≡ pairs_over 0 l t
unfolding pairs_over pairs_of
none_over l t = refl

pairs_join : (xs ys : List Row) → pairs_of (xs ++ ys) ≡ pairs_of xs ++ pairs_of ys
unfolding pairs_of
pairs_join [] ys = refl
pairs_join (x ∷ xs) ys = ap (λ (ws : List ℕ). x.register ∷ x.value ∷ ws) (pairs_join xs ys)

-- two words stored, one after the other
second-set : (p : List ℕ) (a z b : ℕ) (ys : List ℕ) → set (p ++ a ∷ z ∷ ys) (suc (length p)) b ≡ p ++ a ∷ b ∷ ys
second-set [] a z b ys = refl
second-set (x ∷ p) a z b ys = ap (λ (xs : List ℕ). x ∷ xs) (second-set p a z b ys)

both-set : (p : List ℕ) (y z a b : ℕ) (ys : List ℕ) (n : ℕ) → length p ≡ n → set (set (p ++ y ∷ z ∷ ys) n a) (n + 1) b ≡ p ++ a ∷ b ∷ ys
both-set p y z a b ys n e =
    let place : n + 1 ≡ suc (length p) = omega (arith, e) in
    ap (λ (xs : List ℕ). set xs (n + 1) b) (set_at p y (z ∷ ys) a n e)
    ∙ ap (λ (k : ℕ). set (p ++ a ∷ z ∷ ys) k b) place ∙ second-set p a z b ys

pairs_more : (n : ℕ) (ws : List ℕ) → n < length ws
    → pairs_of (take (n + 1) (rows_in ws)) ≡ pairs_of (take n (rows_in ws)) ++ (row_of (get_or ws n 0)).register ∷ (row_of (get_or ws n 0)).value ∷ []
unfolding pairs_of rows_in
pairs_more n ws h =
    let l = rows_in ws in
    let more : n + 1 ≡ suc n = omega arith in
    let last : get_or l n (row_of 0) ≡ row_of (get_or ws n 0) = get_or-map row_of ws n 0 in
    ap (λ (k : ℕ). pairs_of (take k l)) more ∙ ap pairs_of (take-suc l n (row_of 0) (rw (rows_long ws) h))
    ∙ pairs_join (take n l) (get_or l n (row_of 0) ∷ []) ∙ ap (λ (r : Row). pairs_of (take n l) ++ r.register ∷ r.value ∷ []) last

-- and one more
pub one-over : (n : ℕ) (ws t : List ℕ) → n < length ws → 2 * n + 1 < length t
    → set (set (pairs_over n (rows_in ws) t) (2 * n) (row_of (get_or ws n 0)).register) (2 * n + 1) (row_of (get_or ws n 0)).value
    ≡ pairs_over (n + 1) (rows_in ws) t
unfolding pairs_over
one-over n ws t h room =
    let l = rows_in ws in
    let p = pairs_of (take n l) in
    let a = (row_of (get_or ws n 0)).register in
    let b = (row_of (get_or ws n 0)).value in
    let rest = drop (suc (suc (2 * n))) t in
    let long : length p ≡ 2 * n = rows_in_pairs n l (rw (rows_long ws) (omega arith)) in
    let past : suc (suc (2 * n)) ≡ 2 * (n + 1) = omega arith in
    let two : drop (2 * n) t ≡ get_or t (2 * n) 0 ∷ get_or t (suc (2 * n)) 0 ∷ rest =
    drop-cons t (2 * n) 0 (omega arith) ∙ ap (λ (xs : List ℕ). get_or t (2 * n) 0 ∷ xs) (drop-cons t (suc (2 * n)) 0 (omega arith)) in
    ap (λ (xs : List ℕ). set (set (p ++ xs) (2 * n) a) (2 * n + 1) b) two
    ∙ both-set p _ _ a b rest (2 * n) long
    ∙ sym (append_assoc p (a ∷ b ∷ []) rest)
    ∙ ap (λ (xs : List ℕ). xs ++ rest) (sym (pairs_more n ws h))
    ∙ ap (λ (k : ℕ). pairs_of (take (n + 1) l) ++ drop k t) past
