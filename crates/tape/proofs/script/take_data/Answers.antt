use lib.Seq.{drop-cons}
use lib.ListN.{length, get_or, take, drop}
use mathlib.Core.List.{List, [], ◌∷◌}
use mathlib.Core.Path.{◌≡◌, ap, sym, ◌∙◌}
use Prim.Native.Nat.{ℕ, zero, suc, ◌≤◌, ◌<◌, ◌-◌, ◌+◌}
use native.Mathlib.Omega.{arith}
use native.Mathlib.Numerals.{add-one}
use native.Mathlib.Nat.{add-zero}
use native.Mathlib.Decide.{dec_lt}
use borrow.Author.Tests.{le-ltb, lt-ltb}
use Rattle.tape.specs.declared.progress.Halt.TheVariants.{ScriptEnded}
use Rattle.tape.specs.declared.progress.Line.{Line}
use Rattle.tape.specs.Pace.{Going, Stopped}
use Rattle.tape.specs.declared.rows.Row.{Row}
use Rattle.tape.specs.Plan.{give, refuse, handle}
use Rattle.tape.specs.Run.{After, after, next, next_at, run}
use Rattle.tape.specs.Steps.{word, data_from}
use Rattle.tape.proofs.Behind.{left-used, further}
use Rattle.tape.proofs.Laws.{run-handle}
use Rattle.tape.proofs.Took.{took}
use Rattle.tape.proofs.script.take_data.Goals as goal

-- n words one after the other, from a call that has taken u
module _ (s : List ℕ) where
  module _ (k n u m : ℕ) (h : Line) (l : List Row) (some : u < length s) where
    one : run s [] (data_from k (suc n)) u m h l
        ≡ next s [] (λ ws. give (get_or s u 0 ∷ ws)) refuse (run s [] (data_from (k + 1) n) (u + 1) m h l).value (run s [] (data_from (k + 1) n) (u + 1) m h l).state
    unfolding data_from handle run word
    one = rw (lt-ltb u (length s) some) (run-handle s [] [] (λ ws. give (get_or s u 0 ∷ ws)) refuse (data_from (k + 1) n) (u + 1) m h l)

  there : (k n u m : ℕ) (h : Line) (l : List Row) → n ≤ length s - u
      → run s [] (data_from k n) u m h l ≡ after (take n (drop u s)) Going (u + n) m h l
  unfolding data_from run next_at
  there k zero u m h l e = rw add-zero
  there k (suc n) u m h l e =
      let some : u < length s = omega arith in
      let sum : u + 1 + n ≡ u + suc n = omega arith in
      one k n u m h l some
      ∙ ap (λ (x : After (List ℕ)). next s [] (λ ws. give (get_or s u 0 ∷ ws)) refuse x.value x.state) (there (k + 1) n (u + 1) m h l (omega arith))
      ∙ rw (sum, drop-cons s u 0 some, add-one)

  ended : (k n u m : ℕ) (h : Line) (l : List Row) → length s - u < n
      → run s [] (data_from k n) u m h l ≡ after [] (Stopped ScriptEnded) (u + (length s - u)) m h l
  unfolding data_from handle run next_at word
  ended k zero u m h l e = absurd (omega arith)
  ended k (suc n) u m h l e = by (dec_lt u (length s)) (ended (k + 1) n (u + 1) m h l)
    where
      by : Dec (u < length s)
          → (length s - (u + 1) < n → run s [] (data_from (k + 1) n) (u + 1) m h l ≡ after [] (Stopped ScriptEnded) (u + 1 + (length s - (u + 1))) m h l)
          → run s [] (data_from k (suc n)) u m h l ≡ after [] (Stopped ScriptEnded) (u + (length s - u)) m h l
      by (yes some) ih =
          let all : u + 1 + (length s - (u + 1)) ≡ u + (length s - u) = omega arith in
          one k n u m h l some
          ∙ ap (λ (x : After (List ℕ)). next s [] (λ ws. give (get_or s u 0 ∷ ws)) refuse x.value x.state) (ih (omega arith))
          ∙ rw all
      by (no none) ih =
          let all : u + (length s - u) ≡ u = omega arith in
          rw (le-ltb u (length s) (omega arith), all)

pub returns-then-more-count-clause-took : goal.returns-then-more-count-clause-took
returns-then-more-count-clause-took c = let a = c.args in
    let more : c.left_from-more.result ≡ length a.rest.now - (a.head.now.used - a.start) = c.left_from-more.ensures in
    λ s l part.
    let left = more ∙ sym (left-used part c.requires.0) in
    took (rw left (sym (ended s 0 _ _ _ _ l (omega (arith, left)))))

pub returns-then-more-count-clause-lie : goal.returns-then-more-count-clause-lie
returns-then-more-count-clause-lie c = λ s part. record { there = tt; whole = tt }

pub returns-clause-took : goal.returns-clause-took
returns-clause-took c = let a = c.args in
    let more : c.left_from-more.result ≡ length a.rest.now - (a.head.now.used - a.start) = c.left_from-more.ensures in
    λ s l part.
    let left = more ∙ sym (left-used part c.requires.0) in
    let lent = (further part c.requires.0 c.rest-left.ensures.part).part in
    took (rw lent (sym (there s 0 _ _ _ _ l (omega (arith, left)))))

pub returns-clause-lie : goal.returns-clause-lie
returns-clause-lie c = let a = c.args in
    let more : c.left_from-more.result ≡ length a.rest.now - (a.head.now.used - a.start) = c.left_from-more.ensures in
    λ s part. record {
      there = rw (further part c.requires.0 c.rest-left.ensures.part).part;
      whole = omega (arith, more, left-used part c.requires.0);
    }
