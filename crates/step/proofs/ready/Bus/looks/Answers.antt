use mathlib.Core.Path.{sym, ◌∙◌}
use Rattle.step.specs.Transfer.{data_plan}
use Rattle.step.proofs.Phases as P
use Rattle.step.proofs.ready.Bus.looks.Goals as goal

pub returns-in-Ok : goal.returns-in-Ok
unfolding data_plan
returns-in-Ok c = λ ws h. P.again_clean c.args.self c.args.phase h ws _ _ (sym c.data_error-answer.ensures ∙ c.in-Ok.is)

pub returns-in-Err : goal.returns-in-Err
returns-in-Err c = λ ws h. c.refuses.ensures ws h ∙ P.again_bad c.args.self c.args.phase h ws _ _ _ (sym c.data_error-answer.ensures ∙ c.in-Err.is)
