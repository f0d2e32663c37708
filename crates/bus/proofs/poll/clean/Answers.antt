use Rattle.tape.proofs.Took.{gives, refuses, passed}
use Rattle.bus.specs.Transfer.{clean}
use Rattle.bus.proofs.poll.clean.Goals as goal

pub returns-in_err-data_error : goal.returns-in_err-data_error
unfolding clean
returns-in_err-data_error c = λ s h l. passed c.from_residual.ensures.1 (rw (← c.in_err-data_error.ensures) refuses)

pub returns : goal.returns
unfolding clean
returns c = λ s h l. rw (← c.in_ok-data_error.ensures) gives
