use Rattle.bus.specs.Ready.{retry_delay}
use Rattle.bus.proofs.ready.retry_delay.Goals as goal

pub returns : goal.returns
unfolding retry_delay
returns c = λ s. rw c.millisecond-spins.ensures at (c.write_row.ensures s)
