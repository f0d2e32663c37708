use mathlib.Core.Path.{refl, sym, ap, ◌∙◌}
use Rattle.tape.specs.Pace.{Stopped}
use Rattle.tape.specs.Plan.{failed, ended}
use Rattle.tape.proofs.Laws.{settled-value, settled-refusal, settled-full}
use Rattle.tape.proofs.Took.{gives, stops, on_true, on_false}
use Rattle.init.specs.Initialise.{late}
use Rattle.init.proofs.begin.judge_version.Goals as goal

pub returns-in-Ok : goal.returns-in-Ok
returns-in-Ok c = λ s h l. rw c.in-Ok.is (settled-value refl (c.version.ensures s h l).gave)

pub returns-then-timed_out : goal.returns-then-timed_out
unfolding late
returns-then-timed_out c = λ s h l. rw c.in-Err.is (settled-refusal (failed _) (ap Stopped c.in-Refused.is)
    (on_true _ (sym c.timed_out.ensures ∙ c.if-timed_out.true) gives).gave)

pub returns-else-timed_out : goal.returns-else-timed_out
unfolding late
returns-else-timed_out c = λ s h l. rw c.in-Err.is (settled-refusal (failed _) (ap Stopped c.in-Refused.is)
    (on_false _ (sym c.timed_out.ensures ∙ c.if-timed_out.false) (stops refl)).gave)

pub returns-in-ScriptEnded : goal.returns-in-ScriptEnded
unfolding late
returns-in-ScriptEnded c = λ s h l. rw c.in-Err.is (settled-refusal ended (ap Stopped c.in-ScriptEnded.is) (stops c.in-ScriptEnded.is).gave)

pub returns-in-TraceFull : goal.returns-in-TraceFull
returns-in-TraceFull c = λ s h l. rw c.in-Err.is (settled-full (ap Stopped c.in-TraceFull.is))
