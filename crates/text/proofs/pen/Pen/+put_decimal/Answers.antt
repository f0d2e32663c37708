use Prim.Native.Nat.{◌+◌, ◌%◌}
use mathlib.Core.Path.{◌≡◌}
use native.Mathlib.Omega.{arith}
use Rattle.text.proofs.Pens.{and_written}
use Rattle.text.proofs.Decimal.{decimal_one, decimal_more}
use Rattle.text.proofs.pen.Pen.+put_decimal.Goals as goal

pub returns-then-n-lt10 : goal.returns-then-n-lt10
returns-then-n-lt10 t c =
    let digit : 48 + c.args.n % 10 ≡ 48 + c.args.n = omega arith in
    rw (decimal_one c.args.n c.if-n-lt10.true, digit) c.put_byte.ensures

pub returns-else-n-lt10 : goal.returns-else-n-lt10
returns-else-n-lt10 t c = rw (decimal_more c.args.n c.if-n-lt10.false) (and_written _ _ _ c.put_decimal.ensures c.put_byte-else-n-lt10.ensures)
