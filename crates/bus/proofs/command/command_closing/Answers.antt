use Rattle.tape.proofs.Took.{handles}
use Rattle.bus.proofs.command.command_closing.Goals as goal

pub returns : goal.returns
returns c = λ s part. handles _ _ (c.command_inner-answer.ensures s part) (c.close_clock.ensures s)
