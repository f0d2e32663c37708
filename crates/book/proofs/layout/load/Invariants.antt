use mathlib.Core.Path.{◌≡◌}
use lib.ListN.{length, take}
use Rattle.text.specs.Ink.{inked}
use Rattle.types.specs.Words.{words_of}
use Rattle.book.proofs.layout.load.Given as goal

abbrev pub invariant-loop-i : goal.invariant-loop-i
invariant-loop-i l = (l.words ≡ inked 0 (take l.i (words_of l.bytes)) l.initial.words) × (length l.words ≡ length l.initial.words)
