use mathlib.Core.Path.{refl}
use Rattle.bus.proofs.response.Form.short.Goals as goal

pub returns : goal.returns
returns c = refl
