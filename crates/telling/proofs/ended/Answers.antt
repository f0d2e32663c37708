use mathlib.Core.Path.{refl}
use Rattle.telling.proofs.ended.Goals as goal

pub returns : goal.returns
returns c = record { called = c.called.ensures; sheet = refl }
