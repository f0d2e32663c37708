use mathlib.Core.Path.{ap, ◌∙◌}
use Rattle.stepping.specs.Ahead.{stand_next}
use Rattle.stepping.specs.declared.call.Stand.{Stand}
use Rattle.stepping.proofs.Standing as S
use Rattle.stepping.proofs.call.Job.commanded.Goals as goal

pub returns-in-On : goal.returns-in-On
returns-in-On c = λ held g h gate. rw c.in-On.is (ap (λ (s : Stand). stand_next c.args.self held g s h) c.at.ensures ∙ S.command-on c.args.self c.args.known h held g _ _)

pub returns-in-Ok : goal.returns-in-Ok
returns-in-Ok c = λ held g h gate. rw (c.in-Over.is, c.in-Ok.is) (c.follows.ensures held g h gate ∙ c.answered.ensures _ h ∙ S.command_well c.args.self c.args.known h held g _ _)

pub returns-in-Err : goal.returns-in-Err
returns-in-Err c = λ held g h gate. rw (c.in-Over.is, c.in-Err.is) (c.follows-in-Err.ensures held g h gate ∙ c.refused.ensures _ h ∙ S.command_badly c.args.self c.args.known h held g _ _)
