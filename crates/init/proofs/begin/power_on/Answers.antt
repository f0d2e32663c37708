use Rattle.init.specs.Initialise.{power_on}
use Rattle.tape.proofs.Took.{cut, next}
use Rattle.init.proofs.begin.power_on.Goals as goal

pub returns-in_err-reset_controller : goal.returns-in_err-reset_controller
unfolding power_on
returns-in_err-reset_controller c = cut _ (c.in_err-reset_controller.ensures _) c.from_residual.ensures.1

pub returns-in_err-configure_clock : goal.returns-in_err-configure_clock
unfolding power_on
returns-in_err-configure_clock c = next (c.in_ok-reset_controller.ensures _) (cut _ (c.in_err-configure_clock.ensures) c.from_residual-in_err-configure_clock.ensures.1)

pub returns-in_err-write_row : goal.returns-in_err-write_row
unfolding power_on
returns-in_err-write_row c = next (c.in_ok-reset_controller.ensures _) (next (c.in_ok-configure_clock.ensures) (cut _ (c.in_err-write_row.ensures _) c.from_residual-in_err-write_row.ensures.1))

pub returns-in_err-set_clken : goal.returns-in_err-set_clken
unfolding power_on
returns-in_err-set_clken c = next (c.in_ok-reset_controller.ensures _) (next (c.in_ok-configure_clock.ensures) (next (c.in_ok-write_row.ensures _) (cut _ (c.in_err-set_clken.ensures _) c.from_residual-in_err-set_clken.ensures.1)))

pub returns : goal.returns
unfolding power_on
returns c = next (c.in_ok-reset_controller.ensures _) (next (c.in_ok-configure_clock.ensures) (next (c.in_ok-write_row.ensures _) (next (c.in_ok-set_clken.ensures _) (c.clock_delay.ensures _))))
