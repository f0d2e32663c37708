use Rattle.bus.specs.Command.{issue}
use Rattle.tape.proofs.Took.{cut, next}
use Rattle.bus.proofs.command.issue.Goals as goal

pub returns-in_err-write_row : goal.returns-in_err-write_row
unfolding issue
returns-in_err-write_row c = λ s. cut _ (c.in_err-write_row.ensures s) c.from_residual.ensures.1

pub returns-in_err-write_row-2 : goal.returns-in_err-write_row-2
unfolding issue
returns-in_err-write_row-2 c = λ s. next (c.in_ok-write_row.ensures s) (cut _ (c.in_err-write_row-2.ensures s) c.from_residual-in_err-write_row-2.ensures.1)

pub returns : goal.returns
unfolding issue
returns c = λ s. next (c.in_ok-write_row.ensures s) (next (c.in_ok-write_row-2.ensures s) (rw c.cmd-order.ensures at (c.write_row-3.ensures s)))
