use mathlib.Core.Path.{sym, ◌∙◌}
use native.Mathlib.Omega.{arith}
use Rattle.bus.specs.Transfer.{settle}
use Rattle.tape.proofs.Took.{gives, next, carry, cut, on_true, on_false, read_further}
use Rattle.bus.proofs.poll.settle.Goals as goal

pub returns-in_err-again : goal.returns-in_err-again
unfolding settle
returns-in_err-again c = λ s l part. cut _ (c.in_err-again.ensures s l part) c.from_residual.ensures.1

pub returns-then-unfinished : goal.returns-then-unfinished
unfolding settle
returns-then-unfinished c = λ s l part.
    carry _ (c.in_ok-again.ensures s l part) (on_true _ (sym c.unfinished.ensures ∙ c.if-unfinished.true) gives)

pub drained-requires : goal.drained-requires
drained-requires c = omega (arith, read_further c.in_ok-again.ensures, c.requires)

pub returns-in_err-drained : goal.returns-in_err-drained
unfolding settle
returns-in_err-drained c = λ s l part.
    carry _ (c.in_ok-again.ensures s l part)
    (on_false _ (sym c.unfinished.ensures ∙ c.if-unfinished.false) (cut _ (c.in_err-drained.ensures s l part) c.from_residual-in_err-drained.ensures.1))

pub returns : goal.returns
unfolding settle
returns c = λ s l part.
    carry _ (c.in_ok-again.ensures s l part)
    (on_false _ (sym c.unfinished.ensures ∙ c.if-unfinished.false) (next (c.in_ok-drained.ensures s l part) gives))
