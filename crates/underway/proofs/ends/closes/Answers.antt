use mathlib.Core.Path.{refl}
use Rattle.underway.proofs.ends.closes.Goals as goal

pub returns : goal.returns
returns c = refl
