use mathlib.Core.Path.{ap, sym, ◌∙◌}
use Rattle.step.specs.Next.{filled_in}
use Rattle.underway.proofs.Moving as Li
use Rattle.underway.proofs.call.Call.went.Goals as goal

pub returns-in-Read : goal.returns-in-Read
unfolding filled_in
returns-in-Read c = λ g. Li.told_read c.args.self g _ (ap (filled_in g.sent) (sym c.in-Read.is) ∙ c.wants-wants.ensures g)

pub returns-in-Write : goal.returns-in-Write
unfolding filled_in
returns-in-Write c = λ g. c.noting.ensures g (c.noted.ensures ∙ Li.told-row c.args.self g _ (ap (filled_in g.sent) (sym c.in-Write.is) ∙ c.wants-wants.ensures g))

pub returns-in-Send : goal.returns-in-Send
returns-in-Send c = λ g. c.noting-in-Send.ensures g (Li.told-sent c.args.self g _ (ap (filled_in g.sent) (sym c.in-Send.is) ∙ c.wants-wants.ensures g))

pub returns-in-Nothing : goal.returns-in-Nothing
unfolding filled_in
returns-in-Nothing c = λ g. Li.told_over c.args.self g (ap (filled_in g.sent) (sym c.in-Nothing.is) ∙ c.wants-wants.ensures g)
