-- Calls written as rows and bodies, and read again; rows and bodies read as calls, and written again.
use Prim.Native.Nat.{ℕ, zero, suc, ◌*◌, ◌≤◌}
use mathlib.Core.Bool.{false}
use mathlib.Core.List.{List, [], ◌∷◌, ◌++◌}
use mathlib.Core.Path.{◌≡◌, refl, ap, sym}
use native.Mathlib.Omega.{arith}
use borrow.Author.Tests.{eq-eqb, eqb-true, not-false}
use lib.ListN.{length, get_or, take, drop, length-append, length-take, length-drop, take-append-drop}
use lib.Seq.{take_at, drop_at, take-add}
use Rattle.book.specs.Layout.{Call, body_of, data_count, rows_in, bodies_in, call_in, calls_of, bad_row, bad_rows, body_words, bad_call, bad_calls}
use Rattle.book.proofs.Causes.{or_left, or_right, data_within}

pub length-rows : (cs : List Call) → length (rows_in cs) ≡ 4 * length cs
unfolding rows_in
length-rows [] = refl
length-rows (c ∷ cs) = omega (arith, length-rows cs)

-- a call is told by its row and its body, wherever it has as many data words as its row says
same-call : (c : Call) → bad_call c ≡ false → call_in c.kind c.a c.b (body_of c) ≡ c
unfolding bad_call
same-call c good =
    let count : length c.«data» ≡ data_count c.kind c.b = eqb-true _ _ (not-false _ (or_right (bad_row c.kind c.a c.b (length (body_of c))) _ good)) in
    rw (take_at c.«data» c.script (data_count c.kind c.b) count, drop_at c.«data» c.script (data_count c.kind c.b) count)

-- written, and read again: whatever stands behind the rows
module _ (rest : List ℕ) where
  pub read-words : (cs : List Call) → body_words (length cs) (rows_in cs ++ rest) ≡ length (bodies_in cs)
  unfolding rows_in bodies_in body_words
  read-words [] = refl
  read-words (c ∷ cs) = rw (length-append (body_of c) (bodies_in cs), read-words cs)

  pub read-calls : (cs : List Call) → bad_calls cs ≡ false → calls_of (length cs) (rows_in cs ++ rest) (bodies_in cs) ≡ cs
  unfolding rows_in bodies_in calls_of bad_calls
  read-calls [] good = refl
  read-calls (c ∷ cs) good =
      rw (take_at (body_of c) (bodies_in cs) (length (body_of c)) refl, drop_at (body_of c) (bodies_in cs) (length (body_of c)) refl, same-call c (or_left _ _ good))
      (ap (λ (l : List Call). c ∷ l) (read-calls cs (or_right (bad_call c) _ good)))

  pub read-bad : (cs : List Call) → bad_calls cs ≡ false → bad_rows (length cs) (rows_in cs ++ rest) ≡ false
  unfolding rows_in bad_rows bad_call bad_calls
  read-bad [] good = refl
  read-bad (c ∷ cs) good =
      let row : bad_row c.kind c.a c.b (length (body_of c)) ≡ false = or_left _ _ (or_left _ _ good) in
      rw row (read-bad cs (or_right (bad_call c) _ good))

-- read, and written again
pub length-calls : (n : ℕ) (rows bodies : List ℕ) → length (calls_of n rows bodies) ≡ n
unfolding calls_of
length-calls zero rows bodies = refl
length-calls (suc n) rows bodies = ap suc (length-calls n (drop 4 rows) (drop (get_or rows 3 0) bodies))

pub write-rows : (n : ℕ) (rows bodies : List ℕ) → 4 * n ≤ length rows → body_words n rows ≤ length bodies → rows_in (calls_of n rows bodies) ≡ take (4 * n) rows
unfolding rows_in calls_of body_words
write-rows zero rows bodies h k = refl
write-rows (suc n) [] bodies h k = absurd (omega arith)
write-rows (suc n) (x ∷ []) bodies h k = absurd (omega arith)
write-rows (suc n) (x ∷ y ∷ []) bodies h k = absurd (omega arith)
write-rows (suc n) (x ∷ y ∷ z ∷ []) bodies h k = absurd (omega arith)
write-rows (suc n) (x ∷ y ∷ z ∷ m ∷ rows) bodies h k =
    let place : 4 * suc n ≡ suc (suc (suc (suc (4 * n)))) = omega arith in
    let body : length (take m bodies) ≡ m = rw length-take (omega arith) in
    rw (place, take-append-drop (data_count x z) (take m bodies), body, write-rows n rows (drop m bodies) (omega arith) (rw length-drop (omega arith)))

pub write_bodies : (n : ℕ) (rows bodies : List ℕ) → bodies_in (calls_of n rows bodies) ≡ take (body_words n rows) bodies
unfolding bodies_in calls_of body_words
write_bodies zero rows bodies = refl
write_bodies (suc n) rows bodies =
    rw (take-append-drop (data_count (get_or rows 0 0) (get_or rows 2 0)) (take (get_or rows 3 0) bodies), write_bodies n (drop 4 rows) (drop (get_or rows 3 0) bodies))
    (sym (take-add (get_or rows 3 0) (body_words n (drop 4 rows)) bodies))

-- a body of as many words as its row says makes a good call of a good row
good-call : (kind a b : ℕ) (body : List ℕ) → bad_row kind a b (length body) ≡ false → bad_call (call_in kind a b body) ≡ false
unfolding bad_call
good-call kind a b body good =
    let count : length (take (data_count kind b) body) ≡ data_count kind b = rw length-take (omega (arith, data_within kind a b (length body) good)) in
    rw (take-append-drop (data_count kind b) body, good, eq-eqb _ _ count)

pub write-bad : (n : ℕ) (rows bodies : List ℕ) → body_words n rows ≤ length bodies → bad_rows n rows ≡ false → bad_calls (calls_of n rows bodies) ≡ false
unfolding bad_calls bad_rows calls_of body_words
write-bad zero rows bodies h good = refl
write-bad (suc n) rows bodies h good =
    let first = take (get_or rows 3 0) bodies in
    let body : length first ≡ get_or rows 3 0 = rw length-take (omega arith) in
    rw (good-call (get_or rows 0 0) (get_or rows 1 0) (get_or rows 2 0) first (rw body (or_left _ _ good)))
    (write-bad n (drop 4 rows) (drop (get_or rows 3 0) bodies) (rw length-drop (omega arith)) (or_right (bad_row (get_or rows 0 0) (get_or rows 1 0) (get_or rows 2 0) (get_or rows 3 0)) _ good))
