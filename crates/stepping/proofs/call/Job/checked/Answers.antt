use mathlib.Core.Path.{sym, ◌∙◌}
use Rattle.stepping.proofs.Follows as F
use Rattle.stepping.proofs.call.Job.checked.Goals as goal

pub returns-then-offers : goal.returns-then-offers
returns-then-offers c = λ ws h. F.check_offers c.args.self c.args.known h ws _ (sym c.offers.ensures ∙ c.if-offers.true)

pub returns-else-offers : goal.returns-else-offers
returns-else-offers c = λ ws h. F.check_declines c.args.self c.args.known h ws _ (sym c.offers.ensures ∙ c.if-offers.false)
