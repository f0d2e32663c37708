use mathlib.Core.Path.{◌∙◌}
use Rattle.step.specs.Ready.{asked, ready_plan}
use Rattle.step.proofs.Inside.{command-goes}
use Rattle.step.proofs.Readying as W
use Rattle.step.proofs.ready.Ready.went.Goals as goal

pub returns-in-Asks : goal.returns-in-Asks
unfolding ready_plan
returns-in-Asks c = λ h gate. rw c.in-Asks.is (c.asking.ensures _ ∙ command-goes (asked c.args.bus _) _ _ h (c.went.ensures h))

pub returns-in-Delay : goal.returns-in-Delay
returns-in-Delay c = λ h gate. rw c.in-Delay.is (c.tries.ensures _ ∙ c.attempt.ensures _ (W.delay-gated _ h _ ∙ gate) ∙ W.delay-told _ h _)
