use Rattle.init.specs.Initialise.{read_scr}
use Rattle.tape.proofs.Took.{passed-as, carry, cut, gives, next}
use Rattle.init.proofs.card.read_scr.Goals as goal

pub returns-in_err-wait_ready : goal.returns-in_err-wait_ready
unfolding read_scr
returns-in_err-wait_ready c = cut _ (c.in_err-wait_ready.ensures) (passed-as _ c.from_residual.result _ c.from_residual.ensures.1)

pub returns-in_err-set_block_length : goal.returns-in_err-set_block_length
unfolding read_scr
returns-in_err-set_block_length c = next (c.in_ok-wait_ready.ensures) (cut _ (c.in_err-set_block_length.ensures) (passed-as _ c.from_residual-in_err-set_block_length.result _ c.from_residual-in_err-set_block_length.ensures.1))

pub returns-in_err-app_command : goal.returns-in_err-app_command
unfolding read_scr
returns-in_err-app_command c = next (c.in_ok-wait_ready.ensures) (next (c.in_ok-set_block_length.ensures) (cut _ (c.in_err-app_command.ensures) (passed-as _ c.from_residual-in_err-app_command.result _ c.from_residual-in_err-app_command.ensures.1)))

pub returns-in_err-read : goal.returns-in_err-read
unfolding read_scr
returns-in_err-read c = next (c.in_ok-wait_ready.ensures) (next (c.in_ok-set_block_length.ensures) (next (c.in_ok-app_command.ensures) (cut _ (c.in_err-read.ensures.took) (passed-as _ c.from_residual-in_err-read.result _ c.from_residual-in_err-read.ensures.1))))

pub returns : goal.returns
unfolding read_scr
returns c = next (c.in_ok-wait_ready.ensures) (next (c.in_ok-set_block_length.ensures) (next (c.in_ok-app_command.ensures) (carry _ (c.in_ok-read.ensures.took) (rw (c.scr_value.ensures, c.word-first.ensures, c.word-second.ensures) gives))))
