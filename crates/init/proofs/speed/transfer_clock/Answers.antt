use Rattle.init.specs.Initialise.{transfer_clock}
use Rattle.tape.proofs.Took.{gives, refuses, carry, cut}
use Rattle.init.proofs.speed.transfer_clock.Goals as goal

pub returns-in_err-rate : goal.returns-in_err-rate
unfolding transfer_clock
returns-in_err-rate c = cut {d = 0} _ (rw (← c.in_err-rate.ensures) refuses) c.from_residual.ensures.1

pub returns : goal.returns
unfolding transfer_clock
returns c = carry {d = 0} _ {v = c.in_ok-rate.rate} (rw (← c.in_ok-rate.ensures) gives) (rw (c.min-requested.ensures, c.min.ensures) at c.set_clock.ensures)
