use mathlib.Core.Path.{refl}
use Rattle.feed.proofs.turn.Feeding.begin.Goals as goal

pub returns : goal.returns
returns c = refl
