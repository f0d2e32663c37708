use mathlib.Core.Path.{refl, ap, ◌∙◌}
use Rattle.stepping.specs.Ahead.{at_plan, stand_next}
use Rattle.stepping.specs.declared.call.Stand.{Stand}
use Rattle.stepping.proofs.Standing as S
use Rattle.underway.proofs.Moving as M
use Rattle.underway.proofs.Rowing as Ro
use Rattle.underway.proofs.steps.unheard.Goals as goal

pub returns-in-Command : goal.returns-in-Command
returns-in-Command c = let a = c.args in
    λ g. rw c.in-Command.is
    (c.commanded.ensures a.held g a.line refl ∙ M.command-missed a.job a.known a.line a.held g _ _ _ (c.missed.ensures a.line))

pub returns-in-Ready : goal.returns-in-Ready
returns-in-Ready c = let a = c.args in
    λ g. rw c.in-Ready.is
    (c.waited.ensures a.held g a.line refl
    ∙ M.ready-missed a.job a.known a.line a.held g _ _ _ (rw c.wait_bus.ensures at (c.missed-step.ensures a.line)))

pub returns-in-Data : goal.returns-in-Data
returns-in-Data c = let a = c.args in
    λ g. rw c.in-Data.is
    (c.received.ensures g
    ∙ M.data_missed a.job a.known a.line a.held g _ _ _
    (λ ws. rw (c.data_bus.ensures, c.phase.ensures) at (c.missed-step-in-Data.ensures ws a.line refl)))

pub returns-in-Idle : goal.returns-in-Idle
returns-in-Idle c = let a = c.args in
    λ g. rw c.in-Idle.is
    (ap (λ (s : Stand). stand_next a.job a.held g s a.line) c.at.ensures
    ∙ c.closes.ensures a.held g a.line ∙ S.idle-missed a.job a.known a.line a.held g _ _)

pub returns-in-Tells : goal.returns-in-Tells
unfolding at_plan
returns-in-Tells c = let a = c.args in
    λ g. ap (λ (s : Stand). stand_next a.job a.held g s a.line) c.at-in-Tells.ensures
    ∙ rw c.in-Tells.is (Ro.row-missed a.job a.known a.line _)

pub returns-in-Over : goal.returns-in-Over
unfolding at_plan
returns-in-Over c = let a = c.args in
    λ g. ap (λ (s : Stand). stand_next a.job a.held g s a.line) c.at-in-Over.ensures
    ∙ rw c.in-Over.is (Ro.end-missed a.job a.known a.line _ _)
