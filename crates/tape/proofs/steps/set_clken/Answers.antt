use mathlib.Core.Path.{◌≡◌}
use Rattle.tape.specs.Rows.{clken_of}
use Rattle.tape.specs.Steps.{set_clken}
use Rattle.tape.proofs.Took.{looks}
use Rattle.tape.proofs.steps.set_clken.Goals as goal

pub returns : goal.returns
unfolding set_clken
returns c = let value : c.with_clken-value.result ≡ clken_of c.args.head.now.line.clkcr c.args.on = c.with_clken-value.ensures in
    λ s. looks _ (rw value at (c.write_row.ensures s))
