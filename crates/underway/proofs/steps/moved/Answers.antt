use mathlib.Core.Path.{refl, ap, sym, ◌∙◌}
use Rattle.tape.specs.declared.progress.Line.{Line}
use Rattle.stepping.specs.Ahead.{line_set, at_plan, stand_next}
use Rattle.stepping.specs.declared.call.Stand.{Stand}
use Rattle.underway.specs.Under.{line_at}
use Rattle.underway.proofs.Moving as M
use Rattle.underway.proofs.Rowing as Ro
use Rattle.underway.proofs.steps.moved.Goals as goal

pub returns-in-Command : goal.returns-in-Command
unfolding line_at
returns-in-Command c = λ g h e. rw c.in-Command.is (c.commanded.ensures c.args.held g c.args.line refl ∙ M.command-moved c.args.job c.args.known h c.args.held g _ _ _ c.args.line (rw c.in-Command.is at e) (c.went.ensures h))

pub returns-in-Ready : goal.returns-in-Ready
unfolding line_at
returns-in-Ready c = λ g h e. rw c.in-Ready.is (c.waited.ensures c.args.held g c.args.line refl ∙ M.ready_moved c.args.job c.args.known h c.args.held g _ _ _ c.args.line (rw c.in-Ready.is at e) (λ h gate. rw c.wait_bus.ensures at (c.went-step.ensures h gate)))

pub returns-in-Data : goal.returns-in-Data
unfolding line_at
returns-in-Data c = λ g h e. rw c.in-Data.is (c.received.ensures g ∙ M.data_moved c.args.job c.args.known h c.args.held g _ _ _ c.args.line (rw c.in-Data.is at e) (λ ws h gate. rw (c.data_bus.ensures, c.phase.ensures) at (c.went-step-in-Data.ensures ws h gate)))

pub returns-in-Idle : goal.returns-in-Idle
unfolding line_at at_plan
returns-in-Idle c = λ g h e. rw c.in-Idle.is (ap (λ (s : Stand). stand_next c.args.job c.args.held g s c.args.line) c.at.ensures ∙ rw c.in-Idle.is (Ro.idle-moved c.args.job c.args.known h _ _ c.args.line (rw c.in-Idle.is at e)))

pub returns-in-Tells : goal.returns-in-Tells
unfolding line_at at_plan
returns-in-Tells c = λ g h e. rw c.in-Tells.is (c.follows.ensures c.args.held g (line_set c.args.known _ c.args.line) (ap (λ (l : Line). l.gated) (sym c.after-next.ensures)) ∙ c.gone.ensures _ c.args.line ∙ Ro.row_moved c.args.job c.args.known h _ c.args.line (rw c.in-Tells.is at e))

pub returns-in-Over : goal.returns-in-Over
unfolding line_at at_plan
returns-in-Over c = λ g h e. rw c.in-Over.is (ap (λ (s : Stand). stand_next c.args.job c.args.held g s c.args.line) c.at-in-Over.ensures ∙ rw c.in-Over.is (Ro.end_moved c.args.job c.args.known h _ _ c.args.line (rw c.in-Over.is at e)))
