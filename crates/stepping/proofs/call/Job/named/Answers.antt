use mathlib.Core.Path.{ap, ◌∙◌}
use Rattle.stepping.specs.declared.call.Then.{Then}
use Rattle.stepping.specs.Ahead.{then_next}
use Rattle.stepping.proofs.Follows as F
use Rattle.stepping.proofs.call.Job.named.Goals as goal

pub returns : goal.returns
returns c = λ ws h. ap (λ (t : Then). then_next c.args.self ws t h) c.and.ensures ∙ F.cmd2-on c.args.self c.args.known h ws c.args.words
