use mathlib.Core.Path.{ap, ◌∙◌}
use Rattle.step.specs.Next.{filled_in}
use Rattle.stepping.specs.Ahead.{at_plan}
use Rattle.underway.proofs.Moving as M
use Rattle.underway.proofs.Rowing as Ro
use Rattle.step.specs.declared.wants.Wants.TheVariants as Wa
use Rattle.underway.proofs.call.Call.wants.Goals as goal

pub returns-in-Command : goal.returns-in-Command
returns-in-Command c = λ g. rw c.in-Command.is (M.command_wants c.args.self.job c.args.self.known c.args.self.line _ g _ _ _ c.wants.ensures)

pub returns-in-Ready : goal.returns-in-Ready
returns-in-Ready c = λ g. rw c.in-Ready.is (M.ready_wants c.args.self.job c.args.self.known c.args.self.line _ g _ _ _ (rw c.wait_bus.ensures at c.wants-in-Ready.ensures))

pub returns-in-Data : goal.returns-in-Data
returns-in-Data c = λ g. rw c.in-Data.is (M.data_wants c.args.self.job c.args.self.known c.args.self.line c.args.self.held g _ _ _ (λ ws. rw (c.data_bus.ensures, c.phase.ensures) at (c.wants-in-Data.ensures ws)))

pub returns-in-Idle : goal.returns-in-Idle
unfolding at_plan filled_in
returns-in-Idle c = λ g. rw c.in-Idle.is (Ro.idle_wants c.args.self.job c.args.self.known c.args.self.line _ _)

pub returns-in-Tells : goal.returns-in-Tells
unfolding at_plan filled_in
returns-in-Tells c = λ g. rw c.in-Tells.is (ap Wa.Write c.row.ensures ∙ Ro.row_wants c.args.self.job c.args.self.known c.args.self.line _)

pub returns-in-Over : goal.returns-in-Over
unfolding at_plan filled_in
returns-in-Over c = λ g. rw c.in-Over.is (Ro.end_wants c.args.self.job c.args.self.known c.args.self.line _ _)
