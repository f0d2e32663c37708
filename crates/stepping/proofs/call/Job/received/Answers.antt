use mathlib.Core.Path.{refl, ap, ◌∙◌}
use Rattle.stepping.specs.Ahead.{stand_next}
use Rattle.stepping.specs.declared.call.Stand.{Stand}
use Rattle.stepping.proofs.Standing as S
use Rattle.stepping.proofs.call.Job.received.Goals as goal

pub returns-in-On : goal.returns-in-On
returns-in-On c = λ g. rw c.in-On.is (ap (λ (s : Stand). stand_next c.args.self c.args.held g s c.args.line) c.at.ensures ∙ S.data_on c.args.self c.args.known c.args.line c.args.held g _ _)

pub returns-in-Ok : goal.returns-in-Ok
returns-in-Ok c = λ g. rw (c.in-Over.is, c.in-Ok.is) (c.follows.ensures _ g _ refl ∙ c.got.ensures g _ refl ∙ S.data_done c.args.self c.args.known c.args.line c.args.held g _)

pub returns-in-Err : goal.returns-in-Err
returns-in-Err c = λ g. rw (c.in-Over.is, c.in-Err.is) (ap (λ (s : Stand). stand_next c.args.self c.args.held g s c.args.line) c.at-in-Err.ensures ∙ c.stands.ensures _ g _ refl ∙ c.lost.ensures _ _ ∙ S.data_failed c.args.self c.args.known c.args.line c.args.held g _ _)
