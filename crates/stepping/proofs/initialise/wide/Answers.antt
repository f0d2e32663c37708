use mathlib.Core.Path.{refl}
use Rattle.stepping.proofs.initialise.wide.Goals as goal

pub returns : goal.returns
returns c = refl
