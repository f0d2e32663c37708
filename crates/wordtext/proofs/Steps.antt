-- The words that stand at the start of a list, byte by byte.
use Prim.Native.Nat.{ℕ, ◌+◌, ◌-◌, ◌<◌, ◌≤◌}
use mathlib.Core.List.{List}
use mathlib.Core.Path.{◌≡◌, refl, ap, sym, ◌∙◌}
use native.Mathlib.Numerals.{add-one}
use native.Mathlib.Omega.{arith}
use lib.ListN.{length, get_or, take, drop, set, length-set, drop_of_length-le}
use lib.Seq.{length-take-le, take-suc-set, drop-set-lt, drop-cons, drop-drop}
use borrow.Author.Tests.{lt-ltb, le-ltb}
use Rattle.wordtext.specs.declared.scan.Scan.{Scan}
use Rattle.wordtext.specs.declared.token.Cause.TheVariants.{TooMany}
use Rattle.wordtext.specs.declared.token.Token.TheVariants.{Wrong}
use Rattle.std.specs.Prelude.{None, Some}
use Rattle.wordtext.specs.Token.{NEWLINE, after, completed, began_at}
use Rattle.wordtext.specs.Text.{State, taken, step, scan, state_of, Holds}

-- one byte, by what it completes
module _ (s : Scan) (at b : ℕ) (list : List ℕ) (fits : s.count ≤ length list) where
  long : length (take s.count list) ≡ s.count
  long = length-take-le s.count list fits

  pub by-none : completed s.token b ≡ None
      → Holds (step (length list) at (state_of s list) b) list
      (record { token = after s.token b; start = began_at s.token at s.start; count = s.count })
      list
  unfolding taken
  by-none e = record { same = rw e; rest = refl; size = refl; fits = fits }

  pub by_word : (w : ℕ) → completed s.token b ≡ Some w → s.count < length list
      → Holds (step (length list) at (state_of s list) b) list
      (record { token = after s.token b; start = began_at s.token at s.start; count = s.count + 1 })
      (set list s.count w)
  unfolding taken
  by_word w e room =
      record {
        same = rw (e, long, lt-ltb _ _ room, add-one, take-suc-set list s.count w room);
        rest = drop-set-lt (s.count + 1) list s.count w (omega arith);
        size = length-set list s.count w;
        fits = omega arith;
      }

  pub by-full : (w : ℕ) → completed s.token b ≡ Some w → length list ≤ s.count
      → Holds (step (length list) at (state_of s list) b) list
      (record { token = Wrong TooMany; start = began_at s.token at s.start; count = s.count })
      list
  unfolding taken
  by-full w e full = record { same = rw (e, long, le-ltb _ _ full); rest = refl; size = refl; fits = fits }

-- a reading goes on by one byte, and ends with the last line
pub goes_on : (room i : ℕ) (s : State) (text : List ℕ) → i < length text
    → scan room i s (drop i text) ≡ scan room (i + 1) (step room i s (get_or text i 0)) (drop (i + 1) text)
unfolding scan
goes_on room i s text h = ap (scan room i s) (drop-cons text i 0 h) ∙ ap (λ (n : ℕ). scan room (i + 1) (step room i s (get_or text i 0)) (drop n text)) (sym (add-one i))

pub ends : (room i : ℕ) (s : State) (text : List ℕ) → length text ≤ i → scan room i s (drop i text) ≡ step room i s NEWLINE
unfolding scan
ends room i s text h = ap (scan room i s) (drop_of_length-le text {i = i} h)

-- what is the same from n on is the same from m on
pub rest_more : (n m : ℕ) (x a b : List ℕ) → n ≤ m → drop m x ≡ drop m a → drop n a ≡ drop n b → drop m x ≡ drop m b
rest_more n m x a b h e f =
    let place : n + (m - n) ≡ m = omega arith in
    e
    ∙ ap (λ (k : ℕ). drop k a) (sym place)
    ∙ sym (drop-drop (m - n) n a)
    ∙ ap (λ (l : List ℕ). drop (m - n) l) f
    ∙ drop-drop (m - n) n b
    ∙ ap (λ (k : ℕ). drop k b) place
