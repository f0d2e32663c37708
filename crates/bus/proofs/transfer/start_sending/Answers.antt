use Rattle.bus.specs.Transfer.{start_data, before_command, after_command}
use Rattle.tape.proofs.Took.{gives, next, cut}
use Rattle.bus.proofs.transfer.start_sending.Goals as goal

pub returns-in_err-ready_data : goal.returns-in_err-ready_data
unfolding start_data
returns-in_err-ready_data c = cut _ c.in_err-ready_data.ensures c.from_residual.ensures.1

pub returns-in_err-order_data : goal.returns-in_err-order_data
unfolding start_data before_command
returns-in_err-order_data c = next c.in_ok-ready_data.ensures (next {v = tt} gives (cut _ c.in_err-order_data.ensures c.from_residual-in_err-order_data.ensures.1))

pub returns-in_err-control : goal.returns-in_err-control
unfolding start_data before_command after_command
returns-in_err-control c = next c.in_ok-ready_data.ensures (next {v = tt} gives (next c.in_ok-order_data.ensures
    (cut _ (c.in_err-control.ensures _) c.from_residual-in_err-control.ensures.1)))

pub returns : goal.returns
unfolding start_data before_command after_command
returns c = next c.in_ok-ready_data.ensures (next {v = tt} gives (next c.in_ok-order_data.ensures
    (next (c.in_ok-control.ensures _) (rw (← c.requires) at (c.send_data.ensures c.args.script.now)))))
