use mathlib.Core.Path.{refl}
use Rattle.underway.proofs.steps.wait_bus.Goals as goal

pub returns : goal.returns
returns c = rw (c.bus.ensures, c.wait_rca.ensures) refl
