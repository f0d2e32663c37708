use Prim.Native.Nat.{ℕ}
use mathlib.Core.Path.{ap, ◌∙◌}
use Rattle.step.specs.Next.{next}
use Rattle.step.specs.Transfer.{data_plan, polling}
use Rattle.step.proofs.Phases as P
use Rattle.step.proofs.Parts as one
use Rattle.step.proofs.ready.Bus.polls.Goals as goal

pub returns-then-polls-eq0 : goal.returns-then-polls-eq0
returns-then-polls-eq0 c = λ ws h. rw c.if-polls-eq0.true (c.refuses.ensures ws h ∙ P.polls-over _ _ h ws)

pub returns-else-polls-eq0 : goal.returns-else-polls-eq0
unfolding data_plan
returns-else-polls-eq0 c = λ ws h. P.polls_go c.args.self c.args.phase h ws _ ∙ ap (λ (n : ℕ). next (polling c.args.self c.args.phase ws n) h) (one.one_less _ c.if-polls-eq0.false)
