use Rattle.init.specs.Initialise.{power_up}
use Rattle.tape.proofs.Took.{gives, next, carry, cut}
use Rattle.init.proofs.identify.power_up.Goals as goal

pub returns-in_err-app_command : goal.returns-in_err-app_command
unfolding power_up
returns-in_err-app_command c = cut _ c.in_err-app_command.ensures c.from_residual.ensures.1

pub returns-in_err-answer : goal.returns-in_err-answer
unfolding power_up
returns-in_err-answer c = next c.in_ok-app_command.ensures
    (cut _ (rw c.condition-asked.ensures at c.in_err-answer.ensures) c.from_residual-in_err-answer.ensures.1)

pub returns-in_err-ensure : goal.returns-in_err-ensure
unfolding power_up
returns-in_err-ensure c = next c.in_ok-app_command.ensures
    (carry _ (rw c.condition-asked.ensures at c.in_ok-answer.ensures) (cut _ (c.in_err-ensure.ensures _ _ _) c.from_residual-in_err-ensure.ensures.1))

pub returns : goal.returns
unfolding power_up
returns c = next c.in_ok-app_command.ensures
    (carry _ (rw c.condition-asked.ensures at c.in_ok-answer.ensures) (next (c.in_ok-ensure.ensures _ _ _) gives))
