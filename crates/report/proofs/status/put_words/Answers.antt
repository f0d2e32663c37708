use native.Mathlib.Omega.{arith}
use Rattle.report.proofs.Lines.{word_more}
use Rattle.text.proofs.Pens.{and_written}
use Rattle.report.proofs.status.put_words.Goals as goal

pub loop-i-preserved : goal.loop-i-preserved
loop-i-preserved c =
    let joined = and_written _ _ _ c.put_byte.ensures (rw c.word-in-loop-i.ensures at c.put_hex-in-loop-i.ensures) in
    rw (word_more c.loop-i.i c.args.words.now (omega arith)) (and_written _ _ _ c.loop-i.invariant joined)
