use Rattle.std.proofs.Common.{◌++◌}
use Rattle.text.specs.Digits.{decimal_of}
use Rattle.text.specs.Typed.{typed}
use Rattle.text.proofs.Pens.{and_written}
use Rattle.cardpile.proofs.put_line.Goals as goal

pub returns : goal.returns
returns c = and_written (typed "book " ++ decimal_of c.args.k) (typed "\n") c.args.pen.now c.put_named.ensures c.put_byte.ensures
