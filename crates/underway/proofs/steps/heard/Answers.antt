use mathlib.Core.Path.{refl, ap, ◌∙◌}
use Rattle.stepping.specs.Ahead.{at_plan, stand_next}
use Rattle.stepping.specs.declared.call.Stand.{Stand}
use Rattle.underway.specs.Under.{KeptAt}
use Rattle.underway.proofs.Moving as M
use Rattle.underway.proofs.Rowing as Ro
use Rattle.underway.proofs.steps.heard.Goals as goal

pub returns-in-Command : goal.returns-in-Command
unfolding KeptAt
returns-in-Command c = λ before g g' kept. rw c.in-Command.is (c.commanded.ensures c.args.held g' c.args.line refl ∙ M.site_sent _ _ _ _ (rw c.in-Command.is at kept) ∙ M.command-heard c.args.job c.args.known c.args.line before g _ _ _ _ (c.fed.ensures c.args.line))

pub returns-in-Ready : goal.returns-in-Ready
unfolding KeptAt
returns-in-Ready c = λ before g g' kept. rw c.in-Ready.is (c.waited.ensures c.args.held g' c.args.line refl ∙ M.wait_sent _ _ _ _ (rw c.in-Ready.is at kept) ∙ M.ready-heard c.args.job c.args.known c.args.line before g _ _ _ _ (rw c.wait_bus.ensures at (c.fed-step.ensures c.args.line)))

pub returns-in-Data : goal.returns-in-Data
unfolding KeptAt
returns-in-Data c = λ before g g' kept. rw c.in-Data.is (c.received.ensures g' ∙ M.data_heard c.args.job c.args.known c.args.line before g _ _ _ c.args.held g' _ (λ ws ws' more. rw (c.data_bus.ensures, c.phase.ensures) at (c.fed-step-in-Data.ensures ws ws' c.args.line refl (rw c.phase.ensures more))) (rw c.in-Data.is at kept))

pub returns-in-Idle : goal.returns-in-Idle
unfolding at_plan
returns-in-Idle c = λ before g g' kept. rw c.in-Idle.is (c.idled.ensures c.args.held g' c.args.line)

pub returns-in-Tells : goal.returns-in-Tells
unfolding at_plan
returns-in-Tells c = λ before g g' kept. ap (λ (s : Stand). stand_next c.args.job c.args.held g' s c.args.line) c.at.ensures ∙ rw c.in-Tells.is (Ro.row-heard c.args.job c.args.known c.args.line _ _)

pub returns-in-Over : goal.returns-in-Over
unfolding at_plan KeptAt
returns-in-Over c = λ before g g' kept. ap (λ (s : Stand). stand_next c.args.job c.args.held g' s c.args.line) c.at-in-Over.ensures ∙ rw c.in-Over.is (Ro.end-words c.args.job c.args.known c.args.line _ _ _ _ (rw c.in-Over.is at kept))
