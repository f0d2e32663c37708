-- Each call of a book that can be written: it is good by itself, and the data words of a write are words of 32 bits.
use Prim.Native.Nat.{ℕ, zero, suc, ◌*◌, ◌^◌, ◌<◌}
use mathlib.Core.Bool.{false}
use mathlib.Core.List.{List, [], ◌∷◌, ◌++◌}
use mathlib.Core.Path.{◌≡◌}
use native.Mathlib.Omega.{arith}
use borrow.Author.Tests.{eqb-true, not-false}
use lib.ListN.{length, get_or}
use Rattle.book.specs.Layout.{Book, Call, body_of, data_count, rows_in, bodies_in, words_in, bad_row, bad_call, bad_calls, WellFormed}
use Rattle.book.proofs.Causes.{or_left, or_right}

abbrev Fit : List ℕ → Type 0
Fit ws = (i : ℕ) → get_or ws i 0 < 2 ^ 32

fit-left : (xs ys : List ℕ) → Fit (xs ++ ys) → Fit xs
fit-left [] ys h i = omega arith
fit-left (x ∷ xs) ys h zero = h 0
fit-left (x ∷ xs) ys h (suc i) = fit-left xs ys (λ j. h (suc j)) i

fit_right : (xs ys : List ℕ) → Fit (xs ++ ys) → Fit ys
fit_right [] ys h = h
fit_right (x ∷ xs) ys h = fit_right xs ys (λ i. h (suc i))

-- of the calls before it and those behind it
module _ (c : Call) (after : List Call) where
  good-one : (before : List Call) → bad_calls (before ++ c ∷ after) ≡ false → bad_call c ≡ false
  unfolding bad_calls
  good-one [] good = or_left _ _ good
  good-one (x ∷ before) good = good-one before (or_right (bad_call x) _ good)

  fit-one : (before : List Call) → Fit (bodies_in (before ++ c ∷ after)) → Fit (body_of c)
  unfolding bodies_in
  fit-one [] h = fit-left (body_of c) (bodies_in after) h
  fit-one (x ∷ before) h = fit-one before (fit_right (body_of x) (bodies_in (before ++ c ∷ after)) h)

module _ (book : Book) (well : WellFormed book) (before : List Call) (c : Call) (after : List Call) (e : book.calls ≡ before ++ c ∷ after) where
  its_call : bad_call c ≡ false
  its_call = good-one c after before (rw e at well.calls)

  bodies_fit : Fit (bodies_in book.calls)
  unfolding words_in
  bodies_fit = fit_right (rows_in book.calls) (bodies_in book.calls) (λ i. well.words (suc (suc (suc (suc (suc (suc (suc i))))))))

  pub its_data : (i : ℕ) → get_or c.«data» i 0 < 2 ^ 32
  its_data = fit-left c.«data» c.script (fit-one c after before (rw e at bodies_fit))

  -- a write has its data, 128 words a block
  pub its_count : c.kind ≡ 4 → length c.«data» ≡ 128 * c.b
  unfolding bad_call data_count
  its_count four =
      let count : length c.«data» ≡ data_count c.kind c.b = eqb-true _ _ (not-false _ (or_right (bad_row c.kind c.a c.b (length (body_of c))) _ its_call)) in
      rw four at count
