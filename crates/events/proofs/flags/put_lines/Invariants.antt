use mathlib.Core.Path.{◌≡◌}
use mathlib.Core.Bool.{false}
use lib.ListN.{drop}
use Rattle.text.specs.Pens.{written}
use Rattle.events.specs.Flags.{lines_of}
use Rattle.events.specs.Meaning.{flags_text}
use Rattle.events.proofs.flags.put_lines.Given as goal

-- what is said of the lines that are left, behind what is written, makes all of it
abbrev pub invariant-loop-flag : goal.invariant-loop-flag
invariant-loop-flag l = written (flags_text false (lines_of l.table) l.status) l.fn.pen ≡ written (flags_text l.said (drop l.flag-index (lines_of l.table)) l.status) l.pen
