use mathlib.Core.Path.{refl}
use Rattle.stepping.proofs.call.Known.tells_app.Goals as goal

pub returns : goal.returns
returns c = refl
