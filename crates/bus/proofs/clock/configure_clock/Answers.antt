use Rattle.bus.specs.Clock.{configure_clock}
use Rattle.tape.proofs.Took.{cut, next}
use Rattle.bus.proofs.clock.configure_clock.Goals as goal

pub returns-in_err-wait_idle : goal.returns-in_err-wait_idle
unfolding configure_clock
returns-in_err-wait_idle c = cut _ (c.in_err-wait_idle.ensures _ _ c.rest-rest.ensures.part) c.from_residual.ensures.1

pub returns : goal.returns
unfolding configure_clock
returns c = next (c.in_ok-wait_idle.ensures _ _ c.rest-rest.ensures.part) (rw c.clkcr-value.ensures at (c.write_row.ensures c.args.script.now))
