use Rattle.bus.specs.Transfer.{arm}
use Rattle.tape.proofs.Took.{cut, next}
use Rattle.bus.proofs.transfer.arm.Goals as goal

pub returns-in_err-write_row : goal.returns-in_err-write_row
unfolding arm
returns-in_err-write_row c = λ s. cut _ (c.in_err-write_row.ensures s) c.from_residual.ensures.1

pub returns-in_err-stop_data : goal.returns-in_err-stop_data
unfolding arm
returns-in_err-stop_data c = λ s. next (c.in_ok-write_row.ensures s) (cut _ (c.in_err-stop_data.ensures s) c.from_residual-in_err-stop_data.ensures.1)

pub returns-in_err-write_row-2 : goal.returns-in_err-write_row-2
unfolding arm
returns-in_err-write_row-2 c = λ s. next (c.in_ok-write_row.ensures s) (next (c.in_ok-stop_data.ensures s) (cut _ (c.in_err-write_row-2.ensures s) c.from_residual-in_err-write_row-2.ensures.1))

pub returns : goal.returns
unfolding arm
returns c = λ s. next (c.in_ok-write_row.ensures s) (next (c.in_ok-stop_data.ensures s) (next (c.in_ok-write_row-2.ensures s) (c.write_row-3.ensures s)))
