use mathlib.Core.Path.{refl}
use Rattle.stepping.proofs.call.no_clock.Goals as goal

pub returns : goal.returns
returns c = refl
