use Rattle.bus.specs.Command.{app_command}
use Rattle.tape.proofs.Took.{carry, cut}
use Rattle.bus.proofs.command.app_command.Goals as goal

pub returns-in_err-told : goal.returns-in_err-told
unfolding app_command
returns-in_err-told c = cut _ (c.in_err-told.ensures) c.from_residual.ensures.1

pub returns : goal.returns
unfolding app_command
returns c = carry _ (c.in_ok-told.ensures) (c.ensure.ensures _ _ _)
