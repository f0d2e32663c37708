use mathlib.Core.Path.{◌∙◌}
use Rattle.step.proofs.Phases as P
use Rattle.step.proofs.ready.Bus.begin_data.Goals as goal

pub returns : goal.returns
returns c = λ ws h. c.idles.ensures ws h ∙ P.begins _ _ h ws
