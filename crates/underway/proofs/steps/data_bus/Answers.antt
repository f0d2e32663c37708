use mathlib.Core.Path.{refl}
use Rattle.underway.proofs.steps.data_bus.Goals as goal

pub returns : goal.returns
returns c = rw (c.bus.ensures, c.rca.ensures) refl
