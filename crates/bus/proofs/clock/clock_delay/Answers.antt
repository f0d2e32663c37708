use Rattle.bus.specs.Clock.{delayed}
use Rattle.tape.proofs.Took.{refuses, passed}
use Rattle.bus.proofs.clock.clock_delay.Goals as goal

pub returns-in_err-count : goal.returns-in_err-count
unfolding delayed
returns-in_err-count c = λ s. passed c.from_residual.ensures.1 (rw (← c.in_err-count.ensures) refuses)

pub returns : goal.returns
unfolding delayed
returns c = λ s. rw (← c.in_ok-count.ensures) (c.write_row.ensures s)
