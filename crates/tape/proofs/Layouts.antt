-- How rows lie in a list, and back. The laws of plans speak of rows; what holds of a list's words is said here, once.
use Prim.Native.Nat.{ℕ, zero, suc, ◌+◌, ◌*◌, ◌/◌, ◌%◌, ◌^◌, ◌<◌}
use mathlib.Core.Path.{◌≡◌, refl, ap, sym, ◌∙◌}
use mathlib.Core.List.{List, [], ◌∷◌}
use native.Mathlib.Omega.{arith}
use lib.ListN.{length, take, drop, set, length-map}
use Rattle.tape.specs.declared.rows.Row.{Row}
use Rattle.tape.specs.Layout.{word_of, row_of, words_of, rows_in, pairs_of, rows_of_pairs}

-- a value of 32 bits lies below the register
abbrev pub Fits : Row → Type 0
Fits r = r.value < 2 ^ 32

pub row_back : (r : Row) → Fits r → row_of (word_of r) ≡ r
row_back r f =
    let register : (r.register * 2 ^ 32 + r.value) / 2 ^ 32 ≡ r.register = omega (arith, f) in
    let value : (r.register * 2 ^ 32 + r.value) % 2 ^ 32 ≡ r.value = omega (arith, f) in
    λ i. record { register = register i; value = value i }

pub word_back : (w : ℕ) → word_of (row_of w) ≡ w
word_back w = omega arith

-- as many words as rows
pub rows_long : (ws : List ℕ) → length (rows_in ws) ≡ length ws
unfolding rows_in
rows_long ws = length-map ws row_of

-- a row stored
pub row-stored : (ws : List ℕ) (n : ℕ) (r : Row) → Fits r → rows_in (set ws n (word_of r)) ≡ set (rows_in ws) n r
unfolding rows_in
row-stored [] n r f = refl
row-stored (w ∷ ws) zero r f = ap (λ (x : Row). x ∷ rows_in ws) (row_back r f)
row-stored (w ∷ ws) (suc n) r f = ap (λ (rs : List Row). row_of w ∷ rs) (row-stored ws n r f)

-- The rows that words tell lie in those words: what is proved of rows is proved of words.
pub words_back : (ws : List ℕ) → words_of (rows_in ws) ≡ ws
unfolding words_of rows_in
words_back [] = refl
words_back (w ∷ ws) = λ i. word_back w i ∷ words_back ws i

pub words-told : {ws : List ℕ} {rs : List Row} → rows_in ws ≡ rs → ws ≡ words_of rs
words-told {ws} e = sym (words_back ws) ∙ ap words_of e

pub same-words : {ws vs : List ℕ} → rows_in ws ≡ rows_in vs → ws ≡ vs
same-words {ws} {vs} e = words-told e ∙ words_back vs

-- Words tell the rows that lie in them, whose values are of 32 bits.
unfoldable pub all_fit : List Row → Type 0
all_fit [] = Unit {0}
all_fit (r ∷ rs) = Fits r × all_fit rs

pub rows_back : (rs : List Row) → all_fit rs → rows_in (words_of rs) ≡ rs
unfolding words_of rows_in all_fit
rows_back [] f = refl
rows_back (r ∷ rs) f = λ i. row_back r f.0 i ∷ rows_back rs f.1 i

-- A list's first words, and those past them, from its rows.
take-rows : (n : ℕ) (ws : List ℕ) → rows_in (take n ws) ≡ take n (rows_in ws)
unfolding rows_in
take-rows zero ws = refl
take-rows (suc n) [] = refl
take-rows (suc n) (w ∷ ws) = ap (λ (rs : List Row). row_of w ∷ rs) (take-rows n ws)

drop-rows : (n : ℕ) (ws : List ℕ) → rows_in (drop n ws) ≡ drop n (rows_in ws)
unfolding rows_in
drop-rows zero ws = refl
drop-rows (suc n) [] = refl
drop-rows (suc n) (w ∷ ws) = drop-rows n ws

pub same_first : (ws vs : List ℕ) (n : ℕ) → take n (rows_in ws) ≡ take n (rows_in vs) → take n ws ≡ take n vs
same_first ws vs n e = same-words (take-rows n ws ∙ e ∙ sym (take-rows n vs))

pub same-past : (ws vs : List ℕ) (n : ℕ) → drop n (rows_in ws) ≡ drop n (rows_in vs) → drop n ws ≡ drop n vs
same-past ws vs n e = same-words (drop-rows n ws ∙ e ∙ sym (drop-rows n vs))

-- The old layout: the same, both ways.
pub pair_rows_back : (rs : List Row) → rows_of_pairs (pairs_of rs) ≡ rs
unfolding pairs_of rows_of_pairs
pair_rows_back [] = refl
pair_rows_back (r ∷ rs) = ap (λ (xs : List Row). r ∷ xs) (pair_rows_back rs)

pub pairs_long : (rs : List Row) → length (pairs_of rs) ≡ 2 * length rs
unfolding pairs_of
pairs_long [] = refl
pairs_long (r ∷ rs) = omega (arith, pairs_long rs)

pub pairs_back : (n : ℕ) (ws : List ℕ) → length ws ≡ 2 * n → pairs_of (rows_of_pairs ws) ≡ ws
unfolding pairs_of rows_of_pairs
pairs_back n [] e = refl
pairs_back zero (w ∷ ws) e = absurd (omega arith)
pairs_back (suc n) (w ∷ []) e = absurd (omega arith)
pairs_back (suc n) (w ∷ v ∷ ws) e = ap (λ (xs : List ℕ). w ∷ v ∷ xs) (pairs_back n ws (omega arith))

-- Both layouts tell the same rows: of any rows, and of any words.
pub same_rows : (rs : List Row) → all_fit rs → rows_of_pairs (pairs_of rs) ≡ rows_in (words_of rs)
same_rows rs f = pair_rows_back rs ∙ sym (rows_back rs f)

pub old_rows : (ws : List ℕ) → rows_of_pairs (pairs_of (rows_in ws)) ≡ rows_in ws
old_rows ws = pair_rows_back (rows_in ws)
