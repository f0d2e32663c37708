use mathlib.Core.Path.{sym, ◌∙◌}
use Rattle.step.specs.Ready.{ready_next}
use Rattle.step.proofs.Readying as W
use Rattle.step.proofs.ready.Bus.answered.Goals as goal

pub returns-then-ready : goal.returns-then-ready
unfolding ready_next
returns-then-ready c = λ h. W.answered-ready _ h _ _ (sym c.ready.ensures ∙ c.if-ready.true)

pub returns-else-ready : goal.returns-else-ready
unfolding ready_next
returns-else-ready c = λ h. W.answered-not _ h _ _ (sym c.ready.ensures ∙ c.if-ready.false)
