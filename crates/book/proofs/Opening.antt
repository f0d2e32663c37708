-- Opening a book: each way that it ends, and what that says of the book.
use Prim.Native.Nat.{ℕ, ◌/◌, ◌%◌, ◌≤◌, ◌<◌}
use mathlib.Core.Bool.{Bool, true, false, cond, not, ◌||◌}
use mathlib.Core.List.{List}
use mathlib.Core.Option.{none, some}
use mathlib.Core.Path.{◌≡◌, refl}
use native.Mathlib.Omega.{arith}
use borrow.Author.Tests.{lt-ltb, le-ltb, eq-eqb, ne_eqb, ltb-true}
use lib.Dec.{eqb, ltb}
use lib.ListN.{length}
use Rattle.std.specs.Prelude as P
use Rattle.types.specs.Words.{words_of}
use Rattle.book.specs.Layout.{book_in, bad_words, bad_book, book_of}
use Rattle.book.specs.Readers.{opened_of}
use Rattle.book.proofs.Causes.{or_true, or_right, too_long}
use Rattle.types.proofs.Back.{length-words}

module _ (bytes : List ℕ) (room : ℕ) where
  pub open_odd : (length bytes % 4 ≡ 0 → ⊥) → opened_of bytes room ≡ P.None
  unfolding opened_of bad_book
  open_odd h = simp (ne_eqb _ _ h)

  pub open_over : room < length bytes / 4 → opened_of bytes room ≡ P.None
  unfolding opened_of
  open_over h = simp (lt-ltb _ _ h, or_true)

  pub open_bad : bad_words (words_of bytes) ≡ true → opened_of bytes room ≡ P.None
  unfolding opened_of bad_book
  open_bad h = simp (h, or_true)

  pub open_good : length bytes % 4 ≡ 0 → bad_words (words_of bytes) ≡ false → length bytes / 4 ≤ room → opened_of bytes room ≡ P.Some (length bytes / 4)
  unfolding opened_of bad_book
  open_good e h k = simp (eq-eqb _ _ e, h, le-ltb _ _ k)

-- what an opened book is, and one that is not opened
closed : (bad over : Bool) (n : ℕ) → cond (bad || over) P.None (P.Some n) ≡ P.None → (over ≡ true → bad ≡ true) → bad ≡ true
closed true over n e f = refl
closed false true n e f = f refl
closed false false n e f = cc

opened : (bad over : Bool) (m n : ℕ) → cond (bad || over) P.None (P.Some m) ≡ P.Some n → (bad ≡ false) × (n ≡ m)
opened true over m n e = (cc, cc)
opened false true m n e = (refl, cc)
opened false false m n e = (refl, cc)

module _ (bytes : List ℕ) where
  pub no_book : bad_book bytes ≡ true → book_of bytes ≡ none
  unfolding book_of
  no_book h = rw h

  pub a-book : bad_book bytes ≡ false → book_of bytes ≡ some (book_in (words_of bytes))
  unfolding book_of
  a-book h = rw h

  module _ (room : ℕ) where
    -- with room for 4,096 words, a book that is not opened is none
    pub opened-none : 4096 ≤ room → opened_of bytes room ≡ P.None → book_of bytes ≡ none
    unfolding opened_of bad_book
    opened-none h e =
        let long : ltb room (length bytes / 4) ≡ true → bad_words (words_of bytes) ≡ true = λ over. too_long (words_of bytes) (rw length-words (omega (arith, ltb-true room (length bytes / 4) over))) in
        no_book (closed (bad_book bytes) (ltb room (length bytes / 4)) _ e (λ over. rw (long over, or_true)))

    pub opened_some : (n : ℕ) → opened_of bytes room ≡ P.Some n → (book_of bytes ≡ some (book_in (words_of bytes))) × (bad_words (words_of bytes) ≡ false) × (n ≡ length bytes / 4)
    unfolding opened_of bad_book
    opened_some n e =
        let o = opened (bad_book bytes) (ltb room (length bytes / 4)) (length bytes / 4) n e in
        (a-book o.0, or_right (not (eqb (length bytes % 4) 0)) (bad_words (words_of bytes)) o.0, o.1)
