use native.Mathlib.Omega.{arith}
use Rattle.text.proofs.Ink.{take_more}
use Rattle.text.proofs.Pens.{written_append}
use Rattle.text.proofs.pen.Pen.put.Goals as goal

pub loop-byte-preserved : goal.loop-byte-preserved
loop-byte-preserved c = rw (← take_more c.args.text.now c.loop-byte.byte-index (omega arith), written_append) (rw c.loop-byte.invariant at c.put_byte.ensures)
