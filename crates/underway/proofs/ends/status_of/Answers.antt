use mathlib.Core.Path.{ap, ◌∙◌}
use Rattle.types.specs.Words.{sd_status_of}
use Rattle.stepping.proofs.Held.{all_sixteen}
use borrow.Author.Rules.{rules}
use Rattle.underway.proofs.ends.status_of.Goals as goal

pub returns : goal.returns
returns c = c.sd_status.ensures ∙ ap sd_status_of (all_sixteen _ (search rules))
