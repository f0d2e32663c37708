use mathlib.Core.Path.{ap, sym, ◌∙◌}
use Rattle.stepping.specs.declared.call.Then.{Then}
use Rattle.stepping.specs.Ahead.{then_next}
use Rattle.stepping.proofs.Follows as F
use Rattle.stepping.proofs.call.Job.transfers.Goals as goal

pub returns-in-Ok : goal.returns-in-Ok
returns-in-Ok c = λ ws h. c.transfers_at.ensures ws h ∙ rw (c.min.ensures, c.min-slow.ensures, c.frequency.ensures) (F.rate-good c.args.self c.args.known h ws _ (rw (c.transfer_rate.ensures, c.response_value-csd.ensures, c.list.ensures) at (sym c.transfer_rate-answer.ensures ∙ c.in-Ok.is)))

pub returns-in-Err : goal.returns-in-Err
returns-in-Err c = λ ws h. ap (λ (t : Then). then_next c.args.self ws t h) c.and.ensures ∙ F.rate-bad c.args.self c.args.known h ws _ (rw (c.transfer_rate.ensures, c.response_value-csd.ensures, c.list.ensures) at (sym c.transfer_rate-answer.ensures ∙ c.in-Err.is))
