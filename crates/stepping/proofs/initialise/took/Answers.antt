use mathlib.Core.Path.{ap, ◌∙◌}
use Rattle.init.specs.Initialise.{switched}
use Rattle.stepping.proofs.Held.{all_sixteen}
use borrow.Author.Rules.{rules}
use Rattle.stepping.proofs.initialise.took.Goals as goal

pub returns : goal.returns
returns c = c.took.ensures ∙ ap switched (all_sixteen _ (search rules))
