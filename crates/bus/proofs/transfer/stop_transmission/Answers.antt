use Rattle.bus.specs.Transfer.{stop_transmission}
use Rattle.tape.proofs.Took.{gives, carry, cut, on_true, on_false}
use Rattle.bus.proofs.transfer.stop_transmission.Goals as goal

pub returns-in_err-send : goal.returns-in_err-send
unfolding stop_transmission
returns-in_err-send c = on_true _ (rw c.of_many.ensures at c.if-of_many.true) (cut _ c.in_err-send.ensures c.from_residual.ensures.1)

pub returns-in_ok-send : goal.returns-in_ok-send
unfolding stop_transmission
returns-in_ok-send c = on_true _ (rw c.of_many.ensures at c.if-of_many.true) (carry _ c.in_ok-send.ensures gives)

pub returns-else-of_many : goal.returns-else-of_many
unfolding stop_transmission
returns-else-of_many c = on_false _ (rw c.of_many.ensures at c.if-of_many.false) gives
