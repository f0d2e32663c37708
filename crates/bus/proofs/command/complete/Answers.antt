use Rattle.bus.specs.Command.{complete}
use native.Mathlib.Omega.{arith}
use Rattle.tape.proofs.Took.{carry, cut, read_further}
use Rattle.bus.proofs.command.complete.Goals as goal

pub returns-in_err-status : goal.returns-in_err-status
unfolding complete
returns-in_err-status c = λ s l part. cut _ (c.in_err-status.ensures s l part) c.from_residual.ensures.1

pub returns : goal.returns
unfolding complete
returns c = λ s l part. carry _ (c.in_ok-status.ensures s l part) (c.take_answer.ensures s l part)

pub take_answer-requires : goal.take_answer-requires
take_answer-requires c = omega (arith, read_further c.in_ok-status.ensures, c.requires)
