use Prim.Native.Nat.{◌-◌}
use mathlib.Core.Path.{◌≡◌}
use Rattle.text.specs.Pens.{written}
use Rattle.report.specs.Report.{words_text}
use Rattle.report.proofs.status.put_words.Given as goal

-- the words before word i are written
abbrev pub invariant-loop-i : goal.invariant-loop-i
invariant-loop-i l = l.pen ≡ written (words_text (l.i - 1) l.words) l.fn.pen
