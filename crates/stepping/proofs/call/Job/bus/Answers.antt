use mathlib.Core.Path.{refl}
use Rattle.stepping.proofs.call.Job.bus.Goals as goal

pub returns : goal.returns
returns c = refl
