use mathlib.Core.Path.{◌∙◌}
use Rattle.stepping.proofs.Standing as S
use Rattle.stepping.proofs.call.Job.sends.Goals as goal

pub returns-in-Some : goal.returns-in-Some
returns-in-Some c = λ held g h gate. S.sends-on c.args.self c.args.known h held g _ _ _ _ _ gate _ (rw c.in-Some.is at (c.begin-begun.ensures h))

pub returns-in-None : goal.returns-in-None
returns-in-None c = λ held g h gate. c.closes.ensures held g h ∙ S.sends-spent c.args.self c.args.known h held g _ _ _ _ _ gate (rw c.in-None.is at (c.begin-begun.ensures h))
