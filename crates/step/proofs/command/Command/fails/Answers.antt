use Rattle.step.specs.Command.{end_next}
use Rattle.step.proofs.command.Command.fails.Goals as goal

pub returns : goal.returns
unfolding end_next
returns c = c.ends.ensures
