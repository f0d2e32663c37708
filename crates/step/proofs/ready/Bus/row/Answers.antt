use Rattle.step.specs.Transfer.{row_at}
use Rattle.step.proofs.ready.Bus.row.Goals as goal

pub returns-in-Reset : goal.returns-in-Reset
unfolding row_at
returns-in-Reset c = rw c.in-Reset.is c.row.ensures

pub returns-in-Arm : goal.returns-in-Arm
unfolding row_at
returns-in-Arm c = rw (c.in-Arm.is, ← c.transfer-transfer.ensures) c.row-in-Arm.ensures

pub returns-in-Control : goal.returns-in-Control
unfolding row_at
returns-in-Control c = rw (c.in-Control.is, c.dctrl.ensures, c.sends-sends.ensures, c.transfer-transfer-in-Control.ensures)

pub returns-in-Open : goal.returns-in-Open
unfolding row_at
returns-in-Open c = rw (c.in-Open.is, c.with_clken.ensures)

pub returns-in-Stop : goal.returns-in-Stop
unfolding row_at
returns-in-Stop c = rw c.in-Stop.is c.row-in-Stop.ensures

pub returns-in-Gate : goal.returns-in-Gate
unfolding row_at
returns-in-Gate c = rw (c.in-Gate.is, c.with_clken-in-Gate.ensures)
