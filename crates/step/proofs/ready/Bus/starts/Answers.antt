use mathlib.Core.Path.{◌∙◌}
use Rattle.step.proofs.Phases as P
use Rattle.step.proofs.ready.Bus.starts.Goals as goal

pub returns-in-Some : goal.returns-in-Some
returns-in-Some c = λ ws h. P.starts-on c.args.self c.args.phase h ws _ (rw (c.in-Some.is, c.transfer-transfer.ensures) at (c.begin-begun.ensures h))

pub returns-in-None : goal.returns-in-None
returns-in-None c = λ ws h. c.refuses.ensures ws h ∙ P.starts-failed c.args.self c.args.phase h ws (rw (c.in-None.is, c.transfer-transfer.ensures) at (c.begin-begun.ensures h))
