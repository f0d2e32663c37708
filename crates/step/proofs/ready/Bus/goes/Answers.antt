use mathlib.Core.Path.{◌∙◌}
use Rattle.step.specs.Transfer.{transfer_of, data_plan, data_next, told_plan}
use Rattle.step.proofs.Phases as P
use Rattle.step.proofs.ready.Bus.goes.Goals as goal

pub returns-in-Some : goal.returns-in-Some
unfolding data_next data_plan
returns-in-Some c = λ ws h gate. rw c.in-Reset.is (P.reset-on c.args.self c.args.phase h ws _ _ _ (rw c.in-Some.is at c.after-step.ensures))

pub returns-in-None : goal.returns-in-None
unfolding data_next
returns-in-None c = λ ws h gate. rw c.in-Reset.is (P.reset-done c.args.self c.args.phase h ws _ _ (rw c.in-None.is at c.after-step.ensures))

pub returns-in-Some-step : goal.returns-in-Some-step
unfolding data_next data_plan
returns-in-Some-step c = λ ws h gate. rw c.in-Arm.is (P.arm-on c.args.self c.args.phase h ws _ _ (rw c.in-Some-step.is at (c.after-step-in-Arm.ensures c.args.self.config.data_transfer_timeout (transfer_of c.args.phase))))

pub returns-in-None-step : goal.returns-in-None-step
unfolding data_next
returns-in-None-step c = λ ws h gate. rw c.in-Arm.is (c.readied.ensures ws h ∙ P.arm_done c.args.self c.args.phase h ws _ (rw c.in-None-step.is at (c.after-step-in-Arm.ensures c.args.self.config.data_transfer_timeout (transfer_of c.args.phase))))

pub returns-in-Control : goal.returns-in-Control
unfolding data_next
returns-in-Control c = λ ws h gate. rw c.in-Control.is (c.controls.ensures ws h)

pub returns-in-Open : goal.returns-in-Open
unfolding data_next
returns-in-Open c = λ ws h gate. rw c.in-Open.is (c.starts.ensures ws h)

pub returns-in-Some-step-2 : goal.returns-in-Some-step-2
unfolding data_next data_plan
returns-in-Some-step-2 c = λ ws h gate. rw c.in-Stop.is (P.stop_on c.args.self c.args.phase h ws _ _ (rw c.in-Some-step-2.is at c.after-step-in-Stop.ensures))

pub returns-in-None-step-2 : goal.returns-in-None-step-2
returns-in-None-step-2 c = λ ws h gate. rw c.in-Stop.is (c.closes.ensures ws h gate ∙ P.stop_done c.args.self c.args.phase h ws _ (rw c.in-None-step-2.is at c.after-step-in-Stop.ensures))

pub returns-in-Gate : goal.returns-in-Gate
unfolding told_plan
returns-in-Gate c = λ ws h gate. rw c.in-Gate.is (c.stops.ensures ws h gate)
