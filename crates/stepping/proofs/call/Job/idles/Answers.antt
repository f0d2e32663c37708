use Prim.Native.Nat.{ℕ}
use mathlib.Core.Path.{ap, ◌∙◌}
use Rattle.step.proofs.Parts.{one_less}
use Rattle.stepping.specs.Ahead.{idling}
use Rattle.step.specs.Next.{next}
use Rattle.stepping.proofs.Standing as S
use Rattle.stepping.proofs.call.Job.idles.Goals as goal

pub returns-then-polls-eq0 : goal.returns-then-polls-eq0
returns-then-polls-eq0 c = λ held g h. rw c.if-polls-eq0.true (c.closes.ensures held g h ∙ S.idle-over c.args.self c.args.known h held g _)

pub returns : goal.returns
returns c = λ held g h. S.idle-goes c.args.self c.args.known h held g _ _ ∙ ap (λ (n : ℕ). next (idling c.args.self c.args.known c.args.change n) h) (one_less _ c.if-polls-eq0.false)
