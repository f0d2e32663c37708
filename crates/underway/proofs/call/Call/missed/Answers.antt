use mathlib.Core.Path.{ap}
use Rattle.step.specs.Next.{Next}
use Rattle.stepping.specs.Closing.{Closing}
use Rattle.underway.proofs.call.Call.missed.Goals as goal

pub returns : goal.returns
returns c = λ g. ap (λ (x : Next Closing). record { before = c.args.self.job.host; ahead = x }) (c.unheard-stand.ensures g)
