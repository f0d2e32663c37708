use mathlib.Core.Path.{refl, ap}
use Rattle.step.specs.Next.{Next}
use Rattle.stepping.specs.Closing.{Closing}
use Rattle.underway.proofs.begin.begin.Goals as goal

pub returns : goal.returns
returns c = λ g. ap (λ (x : Next Closing). record { before = c.args.host; ahead = x }) (rw c.line.ensures (c.stands-at.ensures c.asked.ensures _ g _ refl))
