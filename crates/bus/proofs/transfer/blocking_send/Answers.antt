use Rattle.bus.specs.Transfer.{transfer_data, blocking_data}
use Rattle.tape.specs.Steps.{reset_controller}
use Rattle.tape.proofs.Took.{guards-value, guards-halt}
use Rattle.bus.proofs.transfer.blocking_send.Goals as goal

pub returns-in-Ok : goal.returns-in-Ok
unfolding blocking_data
returns-in-Ok c = guards-value {p = transfer_data _ _ _ _ _} reset_controller c.in-Ok.ensures

pub returns-in-Err : goal.returns-in-Err
unfolding blocking_data
returns-in-Err c = guards-halt {p = transfer_data _ _ _ _ _} reset_controller c.in-Err.ensures (c.close.ensures _)
