use Prim.Native.Nat.{◌*◌}
use mathlib.Core.Path.{◌≡◌}
use Rattle.text.specs.Pens.{written}
use Rattle.report.specs.Report.{bytes_text}
use Rattle.report.proofs.blocks.put_bytes.Given as goal

-- the first k bytes are written
abbrev pub invariant-loop-k : goal.invariant-loop-k
invariant-loop-k l = l.pen ≡ written (bytes_text l.k (512 * l.i) l.buffer) l.fn.pen
