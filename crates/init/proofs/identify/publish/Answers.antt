use Rattle.init.specs.Initialise.{publish}
use Rattle.tape.proofs.Took.{gives, carry, cut}
use Rattle.init.proofs.identify.publish.Goals as goal

pub returns-in_err-answer : goal.returns-in_err-answer
unfolding publish
returns-in_err-answer c = cut _ c.in_err-answer.ensures c.from_residual.ensures.1

pub returns : goal.returns
unfolding publish
returns c = carry _ c.in_ok-answer.ensures (rw c.address.ensures gives)
