use native.Mathlib.Omega.{arith}
use Rattle.text.proofs.Ink.{stands-within}
use Rattle.desk.proofs.Refusals.{whole}
use Rattle.cardbook.proofs.Fits.{fits}
use Rattle.cardbook.proofs.lay.Goals as goal

pub returns : goal.returns
returns c = let laid = c.print_book.ensures in
    record { whole = whole laid (omega (arith, fits c.args.bytes.now, c.requires)); within = stands-within laid; laid = laid }
