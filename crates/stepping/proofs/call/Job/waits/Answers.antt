use mathlib.Core.Path.{◌∙◌}
use Rattle.stepping.proofs.Standing as S
use Rattle.stepping.proofs.call.Job.waits.Goals as goal

pub returns-in-Some : goal.returns-in-Some
returns-in-Some c = λ held g h gate. S.waits-on c.args.self c.args.known h held g _ _ (rw (c.in-Some.is, c.bus-bus.ensures, c.wait_rca.ensures) at (c.wait_ready-begun.ensures h gate))

pub returns-in-Blocks : goal.returns-in-Blocks
returns-in-Blocks c = λ held g h gate. rw c.in-Blocks.is (S.waits_read c.args.self c.args.known h held g (rw (c.in-None.is, c.bus-bus.ensures, c.wait_rca.ensures, c.in-Blocks.is) at (c.wait_ready-begun.ensures h gate)))

pub returns-in-Selected : goal.returns-in-Selected
returns-in-Selected c = λ held g h gate. rw c.in-Selected.is (c.closes.ensures held g h ∙ S.waits-selected c.args.self c.args.known h held g (rw (c.in-None.is, c.bus-bus.ensures, c.wait_rca.ensures, c.in-Selected.is) at (c.wait_ready-begun.ensures h gate)))
