use mathlib.Core.Path.{refl}
use native.Mathlib.Omega.{arith}
use Rattle.step.proofs.phase.Phase.top.Goals as goal

pub returns-then-words-eq0 : goal.returns-then-words-eq0
returns-then-words-eq0 c = rw (← c.transfer-transfer.ensures) (omega (arith, c.if-words-eq0.true))

pub returns-else-words-eq0 : goal.returns-else-words-eq0
returns-else-words-eq0 c = rw (← c.transfer-transfer.ensures) refl
