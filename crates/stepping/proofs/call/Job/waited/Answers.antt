use mathlib.Core.Path.{ap, ◌∙◌}
use Rattle.stepping.specs.Ahead.{stand_next}
use Rattle.stepping.specs.declared.call.Stand.{Stand}
use Rattle.stepping.proofs.Standing as S
use Rattle.stepping.proofs.call.Job.waited.Goals as goal

pub returns-in-On : goal.returns-in-On
returns-in-On c = λ held g h gate. rw c.in-On.is (ap (λ (s : Stand). stand_next c.args.self held g s h) c.at.ensures ∙ S.ready_on c.args.self c.args.known h held g _ _)

pub returns-in-Ok : goal.returns-in-Ok
returns-in-Ok c = λ held g h gate. rw (c.in-Over.is, c.in-Ok.is) (ap (λ (s : Stand). stand_next c.args.self held g s h) c.at-in-Ok.ensures ∙ c.stands.ensures held g h gate ∙ c.readied.ensures _ h ∙ S.ready-done c.args.self c.args.known h held g _)

pub returns-in-Err : goal.returns-in-Err
returns-in-Err c = λ held g h gate. rw (c.in-Over.is, c.in-Err.is) (ap (λ (s : Stand). stand_next c.args.self held g s h) c.at-in-Err.ensures ∙ c.stands-in-Err.ensures held g h gate ∙ c.unready.ensures _ h ∙ S.ready-failed c.args.self c.args.known h held g _ _)
