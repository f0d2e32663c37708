use Rattle.stepping.specs.Ahead.{wait_rca}
use Rattle.stepping.proofs.call.Job.wait_rca.Goals as goal

pub returns-in-Blocks : goal.returns-in-Blocks
unfolding wait_rca
returns-in-Blocks c = rw c.in-Blocks.is

pub returns-in-Selected : goal.returns-in-Selected
unfolding wait_rca
returns-in-Selected c = rw c.in-Selected.is
