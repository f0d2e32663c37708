use Rattle.bus.specs.Transfer.{ready_data}
use Rattle.tape.proofs.Took.{cut, next}
use Rattle.bus.proofs.transfer.ready_data.Goals as goal

pub returns-in_err-wait_idle : goal.returns-in_err-wait_idle
unfolding ready_data
returns-in_err-wait_idle c = cut _ (c.in_err-wait_idle.ensures _ _ c.rest-rest.ensures.part) c.from_residual.ensures.1

pub returns : goal.returns
unfolding ready_data
returns c = next (c.in_ok-wait_idle.ensures _ _ c.rest-rest.ensures.part) (c.arm.ensures _)
