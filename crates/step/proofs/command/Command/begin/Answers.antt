use Rattle.tape.specs.Plan.{handle, until}
use Rattle.tape.specs.Steps.{wait_idle}
use Rattle.step.specs.Context.{plug}
use Rattle.step.specs.Command.{begun_next, begun_plan, part_plan, tells_plan, asks_plan, within, shut}
use Rattle.step.proofs.Parts.{one_less}
use Rattle.step.proofs.command.Command.begin.Goals as goal

pub returns-then-gate : goal.returns-then-gate
unfolding begun_next begun_plan part_plan tells_plan
returns-then-gate c = λ h. rw c.if-gate.true

pub returns-then-limit-eq0 : goal.returns-then-limit-eq0
unfolding begun_next begun_plan within wait_idle until handle plug shut
returns-then-limit-eq0 c = λ h. rw (c.if-gate.false, c.if-limit-eq0.true)

pub returns-else-limit-eq0 : goal.returns-else-limit-eq0
unfolding begun_next begun_plan part_plan asks_plan
returns-else-limit-eq0 c = λ h. rw (c.if-gate.false, one_less _ c.if-limit-eq0.false)
