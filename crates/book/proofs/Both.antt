-- A book's words, and what words say, agree both ways: a good book's bytes are read as the book, and bytes that are read as
-- a book are that book's bytes.
use Prim.Native.Nat.{ℕ, ◌+◌, ◌*◌, ◌-◌, ◌%◌, ◌<◌}
use mathlib.Core.Bool.{Bool, true, false, cond, not}
use mathlib.Core.List.{List, ◌∷◌, ◌++◌}
use mathlib.Core.Option.{none, some}
use mathlib.Core.Path.{◌≡◌, refl, ap, sym, ◌∙◌}
use native.Mathlib.Omega.{arith}
use borrow.Author.Tests.{eqb-true, not-false, eq-eqb}
use lib.Dec.{eqb}
use lib.ListN.{length, get_or, take, drop, length-append, length-drop, take-append-drop}
use lib.Seq.{drop_at, drop-drop, drop-cons, take_all}
use Rattle.types.specs.Words.{bytes_of, words_of}
use Rattle.types.proofs.Back.{words_back, bytes_back, words-fit}
use Rattle.types.proofs.Bytes.{length-bytes}
use Rattle.book.specs.Layout.{Book, Call, rows_in, bodies_in, words_in, encode, count_of, contents_of, calls_of, book_in, body_words, bad_words, bad_book, book_of, WellFormed}
use Rattle.book.proofs.Causes.{or_left, or_right, fills, Good, good-words}
use Rattle.book.proofs.Written.{length-rows, read-calls, read-bad, read-words, length-calls, write-rows, write_bodies, write-bad}

-- WRITTEN AND READ
module _ (book : Book) (well : WellFormed book) where
  long : length (words_in book) ≡ 7 + 4 * length book.calls + length (bodies_in book.calls)
  unfolding words_in
  long = rw (length-append, length-rows) (omega arith)

  behind : drop (7 + 4 * length book.calls) (words_in book) ≡ bodies_in book.calls
  unfolding words_in
  behind =
      sym (drop-drop (4 * length book.calls) 7 (words_in book))
      ∙ drop_at (rows_in book.calls) (bodies_in book.calls) (4 * length book.calls) (length-rows book.calls)

  good : bad_words (words_in book) ≡ false
  unfolding words_in
  good =
      let cs = book.calls in
      let all : body_words (length cs) (rows_in cs ++ bodies_in cs) ≡ length (words_in book) - (7 + 4 * length cs) = read-words (bodies_in cs) cs ∙ rw long (omega arith) in
      fills (words_in book) well.long (rw long (omega arith)) well.flags well.attempts well.least well.most (read-bad (bodies_in cs) cs well.calls)
      ∙ simp (eq-eqb _ _ all)

  same : book_in (words_in book) ≡ book
  unfolding words_in book_in
  same =
      let cs = book.calls in
      let whole : List Call → Book = λ l. record { source = book.source; poll_limit = book.poll_limit; ready_attempts = book.ready_attempts; data_timeout = book.data_timeout; software_timeout = book.software_timeout; flags = book.flags; calls = l } in
      ap whole (ap (λ (l : List ℕ). calls_of (length cs) (rows_in cs ++ bodies_in cs) l) behind ∙ read-calls (bodies_in cs) cs well.calls)

  pub written_read : book_of (encode book) ≡ some book
  unfolding encode bad_book book_of
  written_read =
      let even : length (bytes_of (words_in book)) % 4 ≡ 0 = rw length-bytes (omega arith) in
      simp (words_back (words_in book) well.words, eq-eqb _ _ even, good, same)

-- READ AND WRITTEN
module _ (ws : List ℕ) (g : Good ws) where
  seven : get_or ws 0 0 ∷ get_or ws 1 0 ∷ get_or ws 2 0 ∷ get_or ws 3 0 ∷ get_or ws 4 0 ∷ get_or ws 5 0 ∷ get_or ws 6 0 ∷ drop 7 ws ≡ ws
  seven =
      let at : (i : ℕ) → i < 7 → i < length ws = λ i h. omega (arith, g.short) in
      rw (
        ← drop-cons ws 6 0 (at 6 (omega arith)),
        ← drop-cons ws 5 0 (at 5 (omega arith)),
        ← drop-cons ws 4 0 (at 4 (omega arith)),
        ← drop-cons ws 3 0 (at 3 (omega arith)),
        ← drop-cons ws 2 0 (at 2 (omega arith)),
        ← drop-cons ws 1 0 (at 1 (omega arith)),
        ← drop-cons ws 0 0 (at 0 (omega arith)),
      )

  rest_again : take (4 * count_of ws) (drop 7 ws) ++ take (body_words (count_of ws) (drop 7 ws)) (drop (contents_of ws) ws) ≡ drop 7 ws
  rest_again =
      rw (take_all (body_words (count_of ws) (drop 7 ws)) (drop (contents_of ws) ws) (rw length-drop (omega (arith, g.filled))), ← drop-drop (4 * count_of ws) 7 ws, take-append-drop)

  words_again : words_in (book_in ws) ≡ ws
  unfolding words_in book_in
  words_again =
      let n = count_of ws in
      let bodies = drop (contents_of ws) ws in
      rw (
        length-calls n (drop 7 ws) bodies,
        write-rows n (drop 7 ws) bodies (rw length-drop (omega (arith, g.short))) (rw length-drop (omega (arith, g.filled))),
        write_bodies n (drop 7 ws) bodies,
        rest_again,
      ) seven

picked : (bad : Bool) (x book : Book) → cond bad none (some x) ≡ some book → (bad ≡ false) × (x ≡ book)
picked true x book e = (cc, cc)
picked false x book e = (refl, cc)

module _ (bytes : List ℕ) (book : Book) (fit : (i : ℕ) → get_or bytes i 0 < 256) (e : book_of bytes ≡ some book) where
  is : (bad_book bytes ≡ false) × (book_in (words_of bytes) ≡ book)
  unfolding book_of
  is = picked _ _ _ e

  whole : length bytes % 4 ≡ 0
  unfolding bad_book
  whole = eqb-true _ _ (not-false _ (or_left (not (eqb (length bytes % 4) 0)) (bad_words (words_of bytes)) is.0))

  g : Good (words_of bytes)
  unfolding bad_book
  g = good-words (words_of bytes) (or_right (not (eqb (length bytes % 4) 0)) (bad_words (words_of bytes)) is.0)

  its_words : words_in book ≡ words_of bytes
  its_words = rw (← is.1) (words_again (words_of bytes) g)

  pub read-written : encode book ≡ bytes
  unfolding encode
  read-written = rw its_words (bytes_back bytes fit whole)

  -- and the book is one that can be written
  pub read_well : WellFormed book
  unfolding book_in
  read_well =
      rw (← is.1)
      (record {
        words = λ i. rw (words_again (words_of bytes) g) (words-fit bytes fit i);
        long = rw (words_again (words_of bytes) g) g.long;
        flags = g.flags;
        attempts = g.attempts;
        least = rw length-calls g.least;
        most = rw length-calls g.most;
        calls = write-bad _ _ _ (rw length-drop (omega (arith, g.filled))) g.rows;
      })
