use mathlib.Core.Path.{refl}
use Rattle.stepping.proofs.call.Known.and.Goals as goal

pub returns : goal.returns
returns c = refl
