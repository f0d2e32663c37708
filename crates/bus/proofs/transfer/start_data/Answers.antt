use Rattle.bus.specs.Transfer.{start_data, before_command}
use Rattle.tape.proofs.Took.{next, cut}
use Rattle.bus.proofs.Starting.{reads_begin}
use Rattle.bus.proofs.transfer.start_data.Goals as goal

pub returns-in_err-ready_data : goal.returns-in_err-ready_data
unfolding start_data
returns-in_err-ready_data c = cut _ c.in_err-ready_data.ensures c.from_residual.ensures.1

pub returns-in_err-control : goal.returns-in_err-control
unfolding start_data before_command
returns-in_err-control c = next c.in_ok-ready_data.ensures (cut _ (c.in_err-control.ensures _) c.from_residual-in_err-control.ensures.1)

pub returns : goal.returns
returns c = record { gave = reads_begin _ _ _ c.in_ok-ready_data.ensures.gave (c.in_ok-control.ensures _).gave c.order_data.ensures.gave }
