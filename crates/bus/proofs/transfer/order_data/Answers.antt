use Rattle.bus.specs.Transfer.{order_data}
use Rattle.tape.proofs.Took.{carry, cut, gives, next}
use Rattle.bus.proofs.transfer.order_data.Goals as goal

pub returns-in_err-set_clken : goal.returns-in_err-set_clken
unfolding order_data
returns-in_err-set_clken c = cut _ (c.in_err-set_clken.ensures _) c.from_residual.ensures.1

pub returns-in_err-command_inner : goal.returns-in_err-command_inner
unfolding order_data
returns-in_err-command_inner c = next (c.in_ok-set_clken.ensures _) (cut _ (c.in_err-command_inner.ensures _ c.rest-left.ensures.part) c.from_residual-in_err-command_inner.ensures.1)

pub returns : goal.returns
unfolding order_data
returns c = next (c.in_ok-set_clken.ensures _) (carry _ (c.in_ok-command_inner.ensures _ c.rest-left.ensures.part) (gives))
