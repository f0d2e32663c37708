use Rattle.init.specs.Initialise.{no_clock, set_clock}
use Rattle.tape.proofs.Took.{gives, refuses, next, carry, cut}
use Rattle.init.proofs.speed.set_clock.Goals as goal

pub returns-in_err-clock : goal.returns-in_err-clock
unfolding set_clock
returns-in_err-clock c = cut {d = no_clock} _ (rw (← c.in_err-clock.ensures) refuses) c.from_residual.ensures.1

pub returns-in_err-configure_clock : goal.returns-in_err-configure_clock
unfolding set_clock
returns-in_err-configure_clock c = carry {d = no_clock} _ {v = c.in_ok-clock.clock} (rw (← c.in_ok-clock.ensures) gives)
    (cut _ c.in_err-configure_clock.ensures c.from_residual-in_err-configure_clock.ensures.1)

pub returns : goal.returns
unfolding set_clock
returns c = carry {d = no_clock} _ {v = c.in_ok-clock.clock} (rw (← c.in_ok-clock.ensures) gives)
    (next c.in_ok-configure_clock.ensures (next (c.hold_clock.ensures _ _) (c.hold_gated.ensures _ _)))
