-- Rows one after the other: what the definitions say of the rows from row k on, by row k and the rows behind it.
use Prim.Native.Nat.{ℕ, suc, ◌+◌, ◌*◌, ◌-◌, ◌≤◌, ◌<◌}
use mathlib.Core.Bool.{Bool, true, false, ◌||◌}
use mathlib.Core.List.{List, ◌∷◌}
use mathlib.Core.Path.{◌≡◌, ap, ◌∙◌}
use native.Mathlib.Nat.{add-zero}
use native.Mathlib.Omega.{arith}
use lib.ListN.{get_or, drop}
use lib.Seq.{get_or-drop, drop-drop}
use Rattle.book.specs.Layout.{calls_of, bad_row, bad_rows, body_words}
use Rattle.book.specs.declared.layout.Asked.{Asked}
use Rattle.book.specs.Readers.{asked_at, call_asked, calls_from}

-- where row k stands
abbrev pub row_at : ℕ → ℕ
row_at k = 7 + 4 * k

abbrev pub bad_asked : Asked → Bool
bad_asked x = bad_row x.kind x.a x.b x.body_len

module _ (ws : List ℕ) (k : ℕ) where
  behind : drop 4 (drop (row_at k) ws) ≡ drop (row_at (k + 1)) ws
  behind =
      let place : row_at k + 4 ≡ row_at (k + 1) = omega arith in
      drop-drop 4 (row_at k) ws ∙ ap (λ (m : ℕ). drop m ws) place

  first : get_or (drop (row_at k) ws) 0 0 ≡ get_or ws (row_at k) 0
  first = get_or-drop (row_at k) ws 0 0 ∙ ap (λ (m : ℕ). get_or ws m 0) (add-zero (row_at k))

  pub bad-next : (m : ℕ) → bad_rows (suc m) (drop (row_at k) ws) ≡ bad_asked (asked_at ws k 0) || bad_rows m (drop (row_at (k + 1)) ws)
  unfolding bad_rows
  bad-next m = rw (first, get_or-drop (row_at k) ws 1 0, get_or-drop (row_at k) ws 2 0, get_or-drop (row_at k) ws 3 0, behind)

  words-next : (m : ℕ) → body_words (suc m) (drop (row_at k) ws) ≡ get_or ws (row_at k + 3) 0 + body_words m (drop (row_at (k + 1)) ws)
  unfolding body_words
  words-next m = rw (get_or-drop (row_at k) ws 3 0, behind)

  -- THE CALL OF ROW K IS THE FIRST OF THE CALLS FROM ROW K ON
  pub calls-next : (place m : ℕ) → calls_from ws k place (suc m) ≡ call_asked ws (asked_at ws k place) ∷ calls_from ws (k + 1) (place + get_or ws (row_at k + 3) 0) m
  unfolding calls_of calls_from
  calls-next place m =
      rw (first, get_or-drop (row_at k) ws 1 0, get_or-drop (row_at k) ws 2 0, get_or-drop (row_at k) ws 3 0, behind, drop-drop)

  -- among n rows
  module _ (n : ℕ) (h : k < n) where
    left : n - k ≡ suc (n - (k + 1))
    left = omega arith

    pub bad-here : bad_asked (asked_at ws k 0) ≡ true → bad_rows (n - k) (drop (row_at k) ws) ≡ true
    bad-here e = rw (left, bad-next (n - (k + 1)), e)

    pub bad-further : bad_asked (asked_at ws k 0) ≡ false → bad_rows (n - k) (drop (row_at k) ws) ≡ bad_rows (n - (k + 1)) (drop (row_at (k + 1)) ws)
    bad-further e = rw (left, bad-next (n - (k + 1)), e)

    pub words_step : body_words (n - k) (drop (row_at k) ws) ≡ get_or ws (row_at k + 3) 0 + body_words (n - (k + 1)) (drop (row_at (k + 1)) ws)
    words_step = rw left (words-next (n - (k + 1)))

-- no row is left
pub bad-none : (rows : List ℕ) (n k : ℕ) → n ≤ k → bad_rows (n - k) rows ≡ false
unfolding bad_rows
bad-none rows n k h =
    let none : n - k ≡ 0 = omega arith in
    rw none

pub words-none : (rows : List ℕ) (n k : ℕ) → n ≤ k → body_words (n - k) rows ≡ 0
unfolding body_words
words-none rows n k h =
    let none : n - k ≡ 0 = omega arith in
    rw none
