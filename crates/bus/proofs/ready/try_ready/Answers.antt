use mathlib.Core.Path.{sym, ◌∙◌}
use Rattle.bus.specs.Ready.{try_ready}
use Rattle.tape.proofs.Took.{gives, next, carry, cut, on_true, on_false}
use Rattle.bus.proofs.ready.try_ready.Goals as goal

pub returns-in_err-status : goal.returns-in_err-status
unfolding try_ready
returns-in_err-status c = cut _ c.in_err-status.ensures c.from_residual.ensures.1

pub returns-then-ready : goal.returns-then-ready
unfolding try_ready
returns-then-ready c = carry _ c.in_ok-status.ensures (on_true _ (sym c.ready.ensures ∙ c.if-ready.true) gives)

pub returns-in_err-retry_delay : goal.returns-in_err-retry_delay
unfolding try_ready
returns-in_err-retry_delay c = carry _ c.in_ok-status.ensures
    (on_false _ (sym c.ready.ensures ∙ c.if-ready.false) (cut _ (c.in_err-retry_delay.ensures _) c.from_residual-in_err-retry_delay.ensures.1))

pub returns : goal.returns
unfolding try_ready
returns c = carry _ c.in_ok-status.ensures
    (on_false _ (sym c.ready.ensures ∙ c.if-ready.false) (next (c.in_ok-retry_delay.ensures _) gives))
