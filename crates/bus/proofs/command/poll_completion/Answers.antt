use Rattle.tape.specs.declared.script.Reading.TheVariants as Reading
use Rattle.bus.specs.Command.{poll_completion}
use Rattle.tape.proofs.Took.{carry, cut, gives, next}
use Rattle.bus.proofs.command.poll_completion.Goals as goal

pub returns-in_err-status : goal.returns-in_err-status
unfolding poll_completion
returns-in_err-status c = λ s l part. cut _ (c.in_err-status.ensures Reading.Status s l part) c.from_residual.ensures.1

pub returns-in_err-ensure : goal.returns-in_err-ensure
unfolding poll_completion
returns-in_err-ensure c = λ s l part. carry _ (c.in_ok-status.ensures Reading.Status s l part) (cut _ (c.in_err-ensure.ensures s _ l) c.from_residual-in_err-ensure.ensures.1)

pub returns : goal.returns
unfolding poll_completion
returns c = λ s l part. carry _ (c.in_ok-status.ensures Reading.Status s l part) (next (c.in_ok-ensure.ensures s _ l) (gives))
