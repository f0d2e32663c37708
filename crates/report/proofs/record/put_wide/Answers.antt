use native.Mathlib.Omega.{arith}
use Rattle.report.proofs.Halves.{wide}
use Rattle.text.proofs.Pens.{and_written}
use Rattle.report.proofs.record.put_wide.Goals as goal

pub returns : goal.returns
returns c = rw (wide c.args.wide.high c.args.wide.low (omega arith)) (and_written _ _ _ c.put_number.ensures c.put_hex.ensures)
