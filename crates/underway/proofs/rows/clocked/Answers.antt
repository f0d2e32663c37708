use mathlib.Core.Path.{refl}
use Rattle.underway.proofs.rows.clocked.Goals as goal

pub returns : goal.returns
returns c = refl
