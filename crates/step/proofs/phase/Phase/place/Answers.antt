use mathlib.Core.Path.{refl}
use native.Mathlib.Omega.{arith}
use Rattle.step.proofs.phase.Phase.place.Goals as goal

pub returns-then-after-top : goal.returns-then-after-top
returns-then-after-top c = rw (← c.top-top.ensures) refl

pub returns-else-after-top : goal.returns-else-after-top
returns-else-after-top c = rw (← c.top-top.ensures) (omega (arith, c.if-after-top.false))
