use Rattle.bus.specs.Ready.{read_status}
use Rattle.tape.proofs.Took.{carry, cut, gives}
use Rattle.bus.proofs.ready.read_status.Goals as goal

pub returns-in_err-answer : goal.returns-in_err-answer
unfolding read_status
returns-in_err-answer c = cut _ (c.in_err-answer.ensures) c.from_residual.ensures.1

pub returns : goal.returns
unfolding read_status
returns c = carry _ (c.in_ok-answer.ensures) (gives)
