use mathlib.Core.Path.{refl, ap}
use Rattle.step.specs.Next.{Next}
use Rattle.stepping.specs.Closing.{Closing}
use Rattle.underway.proofs.call.Call.fed.Goals as goal

pub returns : goal.returns
returns c = λ g g' e. ap (λ (x : Next Closing). record { before = c.args.self.job.host; ahead = x }) (c.heard-stand.ensures c.args.self.held g g' (rw c.kept-held.ensures.set (c.kept-held.ensures.handed c.args.self.job c.args.self.known c.args.self.line g g' refl e)))
