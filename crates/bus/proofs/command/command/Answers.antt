use mathlib.Core.List.{[]}
use native.Mathlib.Omega.{arith}
use Rattle.bus.specs.Command.{command}
use Rattle.tape.proofs.Took.{next, cut, looks, on_true, on_false, took_none}
use Rattle.bus.proofs.command.command.Goals as goal

pub returns-in_err-set_clken : goal.returns-in_err-set_clken
unfolding command
returns-in_err-set_clken c = λ s part. looks _ (on_true _ c.if-head.true (cut _ (c.in_err-set_clken.ensures s) c.from_residual.ensures.1))

pub command_closing-requires : goal.command_closing-requires
command_closing-requires c = omega (arith, took_none (c.in_ok-set_clken.ensures []), c.requires)

pub returns-then-head : goal.returns-then-head
unfolding command
returns-then-head c = λ s part. looks _ (on_true _ c.if-head.true
    (next (c.in_ok-set_clken.ensures s) (c.command_closing.ensures s (record { part = rw (took_none (c.in_ok-set_clken.ensures [])) part.part }))))

pub returns : goal.returns
unfolding command
returns c = λ s part. looks _ (on_false _ c.if-head.false (c.command_inner.ensures s part))
