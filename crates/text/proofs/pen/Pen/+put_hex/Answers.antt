use mathlib.Core.Path.{sym}
use native.Mathlib.Omega.{arith}
use Rattle.text.proofs.Pens.{written_nothing, written_append}
use Rattle.text.proofs.Hex.{hex_none, hex_more}
use Rattle.text.proofs.pen.Pen.+put_hex.Goals as goal

pub returns-then-digits-gt0 : goal.returns-then-digits-gt0
returns-then-digits-gt0 t c =
    rw (hex_more c.args.digits c.args.n (omega arith), written_append, ← c.hex_digit.ensures, ← c.put_hex.ensures) c.put_byte.ensures

pub returns-else-digits-gt0 : goal.returns-else-digits-gt0
returns-else-digits-gt0 t c = rw (hex_none c.args.digits c.args.n (omega arith)) (sym (written_nothing _))
