-- What a reading answers, and where its words stand.
use Prim.Native.Nat.{ℕ}
use mathlib.Core.List.{List, ◌++◌}
use mathlib.Core.Path.{◌≡◌, ap, sym, ◌∙◌}
use native.Mathlib.Omega.{arith}
use lib.ListN.{length, take, drop, take-append-drop}
use lib.Seq.{length-take-le, take-append_seam}
use Rattle.std.specs.Prelude.{Result, Ok, Err}
use Rattle.wordtext.specs.declared.token.Cause.{Cause}
use Rattle.wordtext.specs.declared.place.Place.{Place}
use Rattle.wordtext.specs.declared.scan.Scan.{Scan}
use Rattle.wordtext.specs.Token.{verdict_of}
use Rattle.wordtext.specs.Text.{State, read_of, answer_by, answer_at, answer_of, place_of, laid, Holds}

-- by what the code holds at the end
module _ (text was list : List ℕ) (s : Scan) (holds : Holds (read_of (length was) text) was s list) where
  long : length (take s.count list) ≡ s.count
  long = length-take-le s.count list (omega (arith, holds.size, holds.fits))

  pub held-answer : answer_by (verdict_of s.token) (place_of text s.start) s.count ≡ answer_of (length was) text
  unfolding answer_of
  held-answer =
      ap (answer_by (verdict_of s.token) (place_of text s.start)) (sym long)
      ∙ ap (λ (t : State). answer_at t text) holds.same

  pub held-list : list ≡ laid (read_of (length was) text).words was
  held-list =
      sym (take-append-drop s.count list)
      ∙ ap (λ (l : List ℕ). take s.count list ++ l) holds.rest
      ∙ ap (λ (n : ℕ). take s.count list ++ drop n was) (sym long)
      ∙ ap (λ (t : State). laid t.words was) holds.same

-- an accepted text says how many words there are
accepted : (v : Result (Unit {0}) Cause) (p : Place) (k n : ℕ) → answer_by v p k ≡ Ok n → k ≡ n
accepted (Ok right) p k n e = cc
accepted (Err cause) p k n e = cc

pub words_count : (room : ℕ) (text : List ℕ) (n : ℕ) → answer_of room text ≡ Ok n → length (read_of room text).words ≡ n
unfolding answer_of
words_count room text n e = accepted (verdict_of (read_of room text).token) _ _ n e

-- and those are the first so many of the list
pub first-words : (words list : List ℕ) (n : ℕ) → length words ≡ n → take n (laid words list) ≡ words
first-words words list n e = rw (sym e) (take-append_seam words (drop (length words) list))
