use mathlib.Core.Path.{◌∙◌}
use Rattle.step.proofs.Readying as W
use Rattle.step.proofs.ready.Bus.wait_ready.Goals as goal

pub returns : goal.returns
returns c = λ h gate. c.attempt.ensures h gate ∙ W.wait_begins _ h
