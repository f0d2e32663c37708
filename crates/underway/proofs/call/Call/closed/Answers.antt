use mathlib.Core.Path.{sym, ◌∙◌}
use Rattle.underway.proofs.Ending as En
use Rattle.underway.proofs.call.Call.closed.Goals as goal

pub returns-in-Some : goal.returns-in-Some
returns-in-Some c = λ g. c.ended.ensures g ∙ En.closed-over c.args.self g _ (sym c.end_of.ensures ∙ c.in-Some.is)

pub returns-in-None : goal.returns-in-None
returns-in-None c = λ g. En.closed-under c.args.self g (sym c.end_of.ensures ∙ c.in-None.is)
