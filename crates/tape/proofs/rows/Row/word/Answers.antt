use native.Mathlib.Omega.{arith}
use Rattle.tape.proofs.rows.Row.word.Goals as goal

-- the register lies above the value
pub returns : goal.returns
returns c = omega arith

pub overflow_mul-result : goal.overflow_mul-result
overflow_mul-result c = omega arith

pub overflow_add-result : goal.overflow_add-result
overflow_add-result c = omega arith
