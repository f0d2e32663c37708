use Rattle.init.specs.Initialise.{initialise}
use Rattle.tape.specs.Steps.{reset_controller}
use Rattle.tape.proofs.Took.{guards-value, guards-halt}
use Rattle.init.proofs.card.initialise.Goals as goal

pub returns-in-Ok : goal.returns-in-Ok
unfolding initialise
returns-in-Ok c = guards-value reset_controller c.in-Ok.ensures

pub returns-in-Err : goal.returns-in-Err
unfolding initialise
returns-in-Err c = guards-halt reset_controller c.in-Err.ensures (c.close.ensures _)
