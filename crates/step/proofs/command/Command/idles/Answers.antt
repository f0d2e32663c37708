use mathlib.Core.Path.{◌∙◌}
use Rattle.step.specs.Command.{within, asks_plan}
use Rattle.step.specs.Context.{plug}
use Rattle.tape.specs.Plan.{handle, until}
use Rattle.tape.specs.Steps.{wait_idle}
use Rattle.step.proofs.Parts.{one_less}
use Rattle.step.proofs.command.Command.idles.Goals as goal

pub returns-then-polls-eq0 : goal.returns-then-polls-eq0
unfolding within wait_idle until handle plug
returns-then-polls-eq0 c = λ h. rw c.if-polls-eq0.true (c.fails.ensures h)

pub returns-else-polls-eq0 : goal.returns-else-polls-eq0
unfolding asks_plan
returns-else-polls-eq0 c = λ h. c.asks.ensures h ∙ rw (one_less _ c.if-polls-eq0.false)
