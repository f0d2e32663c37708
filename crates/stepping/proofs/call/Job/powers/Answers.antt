use Prim.Native.Nat.{ℕ}
use mathlib.Core.Path.{ap, ◌∙◌}
use Rattle.step.proofs.Parts.{one_less}
use Rattle.stepping.specs.Ahead.{powering}
use Rattle.step.specs.Next.{next}
use Rattle.stepping.proofs.Follows as F
use Rattle.stepping.proofs.call.Job.powers.Goals as goal

pub returns-then-left-eq0 : goal.returns-then-left-eq0
returns-then-left-eq0 c = λ ws h. rw c.if-left-eq0.true (F.powers-over c.args.self c.args.known h ws _)

pub returns : goal.returns
returns c = λ ws h. F.powers-on c.args.self c.args.known h ws _ ∙ ap (λ (n : ℕ). next (powering c.args.self c.args.known.version2 n) h) (one_less _ c.if-left-eq0.false)
