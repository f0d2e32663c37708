-- A book that was opened: its words lie in front of the list, and they are good.
use Prim.Native.Nat.{ℕ, ◌/◌, ◌≤◌}
use mathlib.Core.Bool.{Bool, true, false, cond, ◌||◌}
use mathlib.Core.List.{List}
use mathlib.Core.Path.{◌≡◌, refl, ap, sym, ◌∙◌}
use native.Mathlib.Omega.{arith}
use borrow.Author.Tests.{ltb-false}
use lib.Dec.{ltb}
use lib.ListN.{length, take}
use Rattle.text.specs.Ink.{inked}
use Rattle.text.proofs.Ink.{ink_length}
use Rattle.std.specs.Prelude.{Option, Some, None}
use Rattle.types.specs.Words.{words_of}
use Rattle.book.specs.Layout.{bad_words, bad_book}
use Rattle.book.specs.Readers.{opened_of}
use Rattle.types.proofs.Back.{length-words}
use Rattle.book.proofs.Load.{loaded}
use Rattle.book.proofs.Opening.{opened_some}
use Rattle.bench.specs.declared.trace.Opening.{Opening}
use Rattle.bench.specs.Opens.{OpensAs}

not-over : (bad over : Bool) (m n : ℕ) → cond (bad || over) None (Some m) ≡ Some n → over ≡ false
not-over true over m n e = cc
not-over false true m n e = cc
not-over false false m n e = refl

module _ (bytes words last : List ℕ) (n : ℕ) (o : opened_of bytes (length words) ≡ Some n) (f : last ≡ inked 0 (words_of bytes) words) where
  room : length bytes / 4 ≤ length words
  unfolding opened_of
  room = ltb-false (length words) (length bytes / 4) (not-over (bad_book bytes) (ltb (length words) (length bytes / 4)) (length bytes / 4) n o)

  all_words : n ≡ length (words_of bytes)
  all_words = (opened_some bytes (length words) n o).2 ∙ sym (length-words bytes)

  pub words_lie : take n last ≡ words_of bytes
  words_lie = rw (all_words, f) (loaded (words_of bytes) words (omega (arith, room, length-words bytes)))

  pub words-good : bad_words (take n last) ≡ false
  words-good = ap bad_words words_lie ∙ (opened_some bytes (length words) n o).1

  pub words-fit : n ≤ length last
  words-fit = rw (f, ink_length) (omega (arith, room, all_words, length-words bytes))

-- however it was opened, its words lie within the list
pub opening-fits : (bytes words last : List ℕ) (r : Opening) → OpensAs (opened_of bytes (length words)) (words_of bytes) r → last ≡ inked 0 (words_of bytes) words
    → r.words ≤ length last
unfolding OpensAs
opening-fits bytes words last r so f = by (opened_of bytes (length words)) refl so
  where
    by : (o : Option ℕ) → opened_of bytes (length words) ≡ o → OpensAs o (words_of bytes) r → r.words ≤ length last
    by (Some n) e s = omega (arith, s.words, all_words bytes words last n e f, words-fit bytes words last n e f)
    by None e s = omega (arith, s.words)
