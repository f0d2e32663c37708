use native.Mathlib.Omega.{arith}
use borrow.Author.Tests.{ne_eqb}
use Rattle.step.specs.Transfer.{blocks_of}
use Rattle.step.proofs.phase.move_blocks.Goals as goal

pub overflow_mul-result : goal.overflow_mul-result
unfolding blocks_of
overflow_mul-result c = omega (arith, c.blocks-count.ensures)

pub returns-then-count-eq1 : goal.returns-then-count-eq1
returns-then-count-eq1 c = rw (← c.blocks-count.ensures, c.if-count-eq1.true)

pub returns-else-count-eq1 : goal.returns-else-count-eq1
returns-else-count-eq1 c = rw (← c.blocks-count.ensures, ne_eqb _ _ c.if-count-eq1.false)
