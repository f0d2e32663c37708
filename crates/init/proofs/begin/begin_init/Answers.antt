use Rattle.init.specs.Initialise.{begin_init}
use Rattle.tape.proofs.Took.{carry, cut, next}
use Rattle.init.proofs.begin.begin_init.Goals as goal

pub returns-in_err-power_on : goal.returns-in_err-power_on
unfolding begin_init
returns-in_err-power_on c = cut _ (c.in_err-power_on.ensures) c.from_residual.ensures.1

pub returns-in_err-send : goal.returns-in_err-send
unfolding begin_init
returns-in_err-send c = next (c.in_ok-power_on.ensures) (cut _ (c.in_err-send.ensures) c.from_residual-in_err-send.ensures.1)

pub returns : goal.returns
unfolding begin_init
returns c = next (c.in_ok-power_on.ensures) (carry _ (c.in_ok-send.ensures) (c.card_version.ensures))
