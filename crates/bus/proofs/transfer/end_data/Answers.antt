use Rattle.bus.specs.Transfer.{end_data}
use Rattle.tape.proofs.Took.{cut, next}
use Rattle.bus.proofs.transfer.end_data.Goals as goal

pub returns-in_err-stop_data : goal.returns-in_err-stop_data
unfolding end_data
returns-in_err-stop_data c = cut _ (c.in_err-stop_data.ensures _) c.from_residual.ensures.1

pub returns-in_err-close_gate : goal.returns-in_err-close_gate
unfolding end_data
returns-in_err-close_gate c = next (c.in_ok-stop_data.ensures _) (cut _ (c.in_err-close_gate.ensures _) c.from_residual-in_err-close_gate.ensures.1)

pub returns-in_err-stop_transmission : goal.returns-in_err-stop_transmission
unfolding end_data
returns-in_err-stop_transmission c = next (c.in_ok-stop_data.ensures _) (next (c.in_ok-close_gate.ensures _) (cut _ (c.in_err-stop_transmission.ensures) c.from_residual-in_err-stop_transmission.ensures.1))

pub returns : goal.returns
unfolding end_data
returns c = next (c.in_ok-stop_data.ensures _) (next (c.in_ok-close_gate.ensures _) (next (c.in_ok-stop_transmission.ensures) (c.wait_ready.ensures)))
