use mathlib.Core.Path.{ap, ◌∙◌}
use Rattle.step.specs.Next.{next}
use Rattle.stepping.specs.Closing.{Closing}
use Rattle.tape.specs.Plan.{Plan}
use Rattle.underway.proofs.call.Call.init_card.Goals as goal

pub returns : goal.returns
returns c = λ g. c.begin.ensures g ∙ ap (λ (p : Plan Closing). record { before = c.args.host; ahead = next p c.args.host.line }) (c.init_first.ensures g.sent)
