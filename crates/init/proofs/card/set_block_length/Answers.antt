use Rattle.init.specs.Initialise.{block_length}
use Rattle.tape.proofs.Took.{gives, carry, cut}
use Rattle.init.proofs.card.set_block_length.Goals as goal

pub returns-in_err-send-in-SDSC : goal.returns-in_err-send-in-SDSC
unfolding block_length
returns-in_err-send-in-SDSC c = rw c.in-SDSC.is (cut _ c.in_err-send-in-SDSC.ensures c.from_residual.ensures.1)

pub returns-in_ok-send-in-SDSC : goal.returns-in_ok-send-in-SDSC
unfolding block_length
returns-in_ok-send-in-SDSC c = rw c.in-SDSC.is (carry _ c.in_ok-send-in-SDSC.ensures gives)

pub returns-in-SDHC : goal.returns-in-SDHC
unfolding block_length
returns-in-SDHC c = rw c.in-SDHC.is gives
