use native.Mathlib.Omega.{arith}
use Rattle.step.specs.Transfer.{blocks_of}
use Rattle.step.proofs.phase.blocks.Goals as goal

pub returns-then-n-eq0 : goal.returns-then-n-eq0
unfolding blocks_of
returns-then-n-eq0 c = omega arith

pub returns-then-n-gt511 : goal.returns-then-n-gt511
unfolding blocks_of
returns-then-n-gt511 c = omega arith

pub returns-else-n-gt511 : goal.returns-else-n-gt511
unfolding blocks_of
returns-else-n-gt511 c = omega arith
