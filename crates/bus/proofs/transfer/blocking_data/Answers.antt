use Rattle.bus.specs.Transfer.{transfer_data, blocking_data}
use Rattle.tape.specs.Steps.{reset_controller}
use Rattle.tape.proofs.Took.{guards-value, guards-halt}
use Rattle.bus.proofs.transfer.blocking_data.Goals as goal

pub returns-in-Ok-clause-took : goal.returns-in-Ok-clause-took
unfolding blocking_data
returns-in-Ok-clause-took c = guards-value {p = transfer_data _ _ _ _ _} reset_controller c.in-Ok.ensures.took

pub returns-in-Ok-clause-lie : goal.returns-in-Ok-clause-lie
returns-in-Ok-clause-lie c = c.in-Ok.ensures.lie

pub returns-in-Err-clause-took : goal.returns-in-Err-clause-took
unfolding blocking_data
returns-in-Err-clause-took c = guards-halt {p = transfer_data _ _ _ _ _} reset_controller c.in-Err.ensures.took (c.close.ensures _)

pub returns-in-Err-clause-lie : goal.returns-in-Err-clause-lie
returns-in-Err-clause-lie c = record { there = tt; whole = tt }
