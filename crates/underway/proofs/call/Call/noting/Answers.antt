use mathlib.Core.Path.{ap}
use Rattle.step.specs.Next.{Next}
use Rattle.stepping.specs.Closing.{Closing}
use Rattle.underway.proofs.call.Call.noting.Goals as goal

pub returns : goal.returns
returns c = λ g e. ap (λ (x : Next Closing). record { before = c.args.self.job.host; ahead = x }) (rw c.line_after-line.ensures (c.moved-stand.ensures g c.args.self.line e))
