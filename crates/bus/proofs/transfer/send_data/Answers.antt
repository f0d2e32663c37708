use mathlib.Core.List.{[]}
use mathlib.Core.Path.{refl}
use Rattle.bus.specs.Transfer.{receive, landed, transfer_data}
use Rattle.tape.proofs.Took.{gives, next, carry, cut, passed-as}
use Rattle.bus.proofs.Sent.{sent}
use Rattle.bus.proofs.transfer.send_data.Goals as goal

pub returns-in_err-start_sending : goal.returns-in_err-start_sending
unfolding transfer_data
returns-in_err-start_sending c = cut _ c.in_err-start_sending.ensures (passed-as _ c.from_residual.result _ c.from_residual.ensures.1)

pub returns-in_err-wait_data : goal.returns-in_err-wait_data
unfolding transfer_data receive landed
returns-in_err-wait_data c = next c.in_ok-start_sending.ensures
    (cut {d = []} _ (cut _ (c.in_err-wait_data.ensures _ _ c.rest-rest.ensures.part) refl) (passed-as _ c.from_residual-in_err-wait_data.result _ c.from_residual-in_err-wait_data.ensures.1))

pub returns : goal.returns
unfolding transfer_data receive landed
returns c = next c.in_ok-start_sending.ensures
    (carry {d = []} _ (next (c.in_ok-wait_data.ensures _ _ c.rest-rest.ensures.part) gives) (sent c.end_data.ensures))
