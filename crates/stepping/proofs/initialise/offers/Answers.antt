use mathlib.Core.Path.{ap, ◌∙◌}
use Rattle.init.specs.Initialise.{offered}
use Rattle.stepping.proofs.Held.{all_sixteen}
use borrow.Author.Rules.{rules}
use Rattle.stepping.proofs.initialise.offers.Goals as goal

pub returns : goal.returns
returns c = c.offers.ensures ∙ ap offered (all_sixteen _ (search rules))
