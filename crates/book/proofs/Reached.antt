-- For whoever goes through a book call by call: the place reached, that each body lies within the words, and that the calls
-- are the book's.
use Prim.Native.Nat.{ℕ, suc, ◌+◌, ◌-◌, ◌≤◌, ◌<◌}
use mathlib.Core.List.{List, [], ◌∷◌}
use mathlib.Core.Path.{◌≡◌}
use native.Mathlib.Nat.{sub-zero}
use native.Mathlib.Omega.{arith}
use lib.ListN.{length, get_or, drop}
use Rattle.book.specs.Layout.{Call, count_of, contents_of, calls_of, book_in, body_words}
use Rattle.book.specs.Readers.{asked_at, call_asked, calls_from}
use Rattle.book.proofs.Causes.{Good}
use Rattle.book.proofs.Rows.{row_at, words_step, calls-next}

-- before call k, counted from 0, the bodies are read up to a place: those that are left fill the rest
pub record Reached (ws : List ℕ) (k place : ℕ) : Type 0 where
  pub within : k ≤ count_of ws
  pub left : place + body_words (count_of ws - k) (drop (row_at k) ws) ≡ length ws

-- the calls that are left there
abbrev pub calls_left : List ℕ → ℕ → ℕ → List Call
calls_left ws k place = calls_from ws k place (count_of ws - k)

module _ (ws : List ℕ) where
  pub reached-first : Good ws → Reached ws 0 (contents_of ws)
  reached-first g = record { within = omega arith; left = rw (sub-zero, g.filled) (omega (arith, g.short)) }

  pub all-calls : (book_in ws).calls ≡ calls_left ws 0 (contents_of ws)
  unfolding book_in calls_from
  all-calls = rw sub-zero

  module _ (k place : ℕ) (r : Reached ws k place) where
    pub none_left : count_of ws ≤ k → calls_left ws k place ≡ []
    unfolding calls_of calls_from
    none_left h =
        let none : count_of ws - k ≡ 0 = omega arith in
        rw none

    module _ (h : k < count_of ws) where
      -- the body of call k lies within the words
      pub body_within : place + get_or ws (row_at k + 3) 0 ≤ length ws
      body_within = omega (arith, r.left, words_step ws k (count_of ws) h)

      pub reached-next : Reached ws (k + 1) (place + get_or ws (row_at k + 3) 0)
      reached-next = record { within = omega arith; left = omega (arith, r.left, words_step ws k (count_of ws) h) }

      pub one-call : calls_left ws k place ≡ call_asked ws (asked_at ws k place) ∷ calls_left ws (k + 1) (place + get_or ws (row_at k + 3) 0)
      one-call =
          let more : count_of ws - k ≡ suc (count_of ws - (k + 1)) = omega arith in
          rw more (calls-next ws k place (count_of ws - (k + 1)))
