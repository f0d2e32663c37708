use Rattle.tape.specs.declared.script.Reading.TheVariants as Reading
use Rattle.bus.specs.Transfer.{poll_transfer}
use native.Mathlib.Omega.{arith}
use Rattle.tape.proofs.Took.{read_further, carry, cut, gives, next}
use Rattle.bus.proofs.poll.poll_transfer.Goals as goal

pub returns-in_err-status : goal.returns-in_err-status
unfolding poll_transfer
returns-in_err-status c = λ s l part. cut _ (c.in_err-status.ensures Reading.Status s l part) c.from_residual.ensures.1

pub returns-in_err-clean : goal.returns-in_err-clean
unfolding poll_transfer
returns-in_err-clean c = λ s l part. carry _ (c.in_ok-status.ensures Reading.Status s l part) (cut _ (c.in_err-clean.ensures s _ l) c.from_residual-in_err-clean.ensures.1)

pub returns-in_err-dma : goal.returns-in_err-dma
unfolding poll_transfer
returns-in_err-dma c = λ s l part. carry _ (c.in_ok-status.ensures Reading.Status s l part) (next (c.in_ok-clean.ensures s _ l) (cut _ (c.in_err-dma.ensures Reading.Dma s l part) c.from_residual-in_err-dma.ensures.1))

pub returns-in_err-ensure : goal.returns-in_err-ensure
unfolding poll_transfer
returns-in_err-ensure c = λ s l part. carry _ (c.in_ok-status.ensures Reading.Status s l part) (next (c.in_ok-clean.ensures s _ l) (carry _ (c.in_ok-dma.ensures Reading.Dma s l part) (cut _ (c.in_err-ensure.ensures s _ l) c.from_residual-in_err-ensure.ensures.1)))

pub returns : goal.returns
unfolding poll_transfer
returns c = λ s l part. carry _ (c.in_ok-status.ensures Reading.Status s l part) (next (c.in_ok-clean.ensures s _ l) (carry _ (c.in_ok-dma.ensures Reading.Dma s l part) (next (c.in_ok-ensure.ensures s _ l) (gives))))

pub read_word-requires-2 : goal.read_word-requires-2
read_word-requires-2 c = omega (arith, read_further (c.in_ok-status.ensures Reading.Status), c.requires)
