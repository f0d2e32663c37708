use Rattle.bus.specs.Transfer.{close_gate}
use Rattle.tape.proofs.Took.{gives, looks, on_true, on_false}
use Rattle.bus.proofs.transfer.close_gate.Goals as goal

pub returns-then-head : goal.returns-then-head
unfolding close_gate
returns-then-head c = λ s. looks _ (on_true _ c.if-head.true (c.set_clken.ensures s))

pub returns : goal.returns
unfolding close_gate
returns c = λ s. looks _ (on_false _ c.if-head.false gives)
