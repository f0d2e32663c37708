use mathlib.Core.Path.{◌≡◌}
use Rattle.text.specs.Pens.{written}
use Rattle.report.specs.Report.{blocks_text}
use Rattle.report.proofs.blocks.put_blocks.Given as goal

-- the first i blocks are written
abbrev pub invariant-loop-i : goal.invariant-loop-i
invariant-loop-i l = l.pen ≡ written (blocks_text l.i l.buffer) l.fn.pen
