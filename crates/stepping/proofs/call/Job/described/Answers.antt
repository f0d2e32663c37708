use mathlib.Core.Path.{ap, sym, ◌∙◌}
use Rattle.stepping.specs.declared.call.Then.{Then}
use Rattle.stepping.specs.Ahead.{then_next}
use Rattle.stepping.proofs.Follows as F
use Rattle.stepping.proofs.call.Job.described.Goals as goal

pub returns-in-Ok : goal.returns-in-Ok
returns-in-Ok c = λ ws h. ap (λ (t : Then). then_next c.args.self ws t h) c.and.ensures ∙ F.csd_known c.args.self c.args.known h ws c.args.words _ (sym (rw (c.response_value-told.ensures, c.list.ensures) at c.agree.ensures) ∙ c.if-agree.true) (rw (c.response_value-told.ensures, c.list.ensures) at (sym c.block_count-answer.ensures ∙ c.in-Ok.is))

pub returns-in-Err : goal.returns-in-Err
returns-in-Err c = λ ws h. ap (λ (t : Then). then_next c.args.self ws t h) c.and-in-Err.ensures ∙ F.csd_bad c.args.self c.args.known h ws c.args.words _ (sym (rw (c.response_value-told.ensures, c.list.ensures) at c.agree.ensures) ∙ c.if-agree.true) (rw (c.response_value-told.ensures, c.list.ensures) at (sym c.block_count-answer.ensures ∙ c.in-Err.is))

pub returns-else-agree : goal.returns-else-agree
returns-else-agree c = λ ws h. ap (λ (t : Then). then_next c.args.self ws t h) c.and-else-agree.ensures ∙ F.csd_other c.args.self c.args.known h ws c.args.words (sym (rw (c.response_value-told.ensures, c.list.ensures) at c.agree.ensures) ∙ c.if-agree.false)
