use Rattle.tape.specs.declared.script.Reading.TheVariants as Reading
use Rattle.bus.specs.Transfer.{drained}
use Rattle.tape.proofs.Took.{carry, cut, next}
use Rattle.bus.proofs.poll.drained.Goals as goal

pub returns-in_err-ensure : goal.returns-in_err-ensure
unfolding drained
returns-in_err-ensure c = λ s l part. cut _ (c.in_err-ensure.ensures s _ l) c.from_residual.ensures.1

pub returns-in_err-count : goal.returns-in_err-count
unfolding drained
returns-in_err-count c = λ s l part. next (c.in_ok-ensure.ensures s _ l) (cut _ (c.in_err-count.ensures Reading.DCount s l part) c.from_residual-in_err-count.ensures.1)

pub returns : goal.returns
unfolding drained
returns c = λ s l part. next (c.in_ok-ensure.ensures s _ l) (carry _ (c.in_ok-count.ensures Reading.DCount s l part) (c.ensure-2.ensures s _ l))
