use mathlib.Core.Path.{◌∙◌}
use Rattle.step.proofs.Phases as P
use Rattle.step.proofs.ready.Bus.sent.Goals as goal

pub returns-then-place-top : goal.returns-then-place-top
returns-then-place-top c = λ ws h. rw (c.place-place.ensures, c.top-top.ensures) (P.sends-on c.args.self c.args.phase h ws c.args.after (rw (c.place-place.ensures, c.top-top.ensures) at c.if-place-top.true))

pub returns-else-place-top : goal.returns-else-place-top
returns-else-place-top c = λ ws h. c.polls.ensures ws h ∙ P.sends-done c.args.self c.args.phase h ws c.args.after (rw (c.place-place.ensures, c.top-top.ensures) at c.if-place-top.false)
