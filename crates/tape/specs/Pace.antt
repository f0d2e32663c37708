-- How far a call has come, and whether it goes on.
use Rattle.std.specs.Prelude.{ℕ}
use Rattle.tape.specs.declared.progress.Halt.{Halt}
use Rattle.tape.specs.declared.progress.Line.{Line}

pub data Pace : Type 0 where
  Going : Pace
  Stopped : Halt → Pace

-- the words taken of the script, the rows written, and what the host holds of the line
pub record Progress : Type 0 where
  pub pace : Pace
  pub used : ℕ
  pub rows : ℕ
  pub line : Line
