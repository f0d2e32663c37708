use Rattle.stepping.specs.Ahead.{frequency_of}
use Rattle.stepping.proofs.call.Asked.frequency.Goals as goal

pub returns-in-Card : goal.returns-in-Card
unfolding frequency_of
returns-in-Card c = rw c.in-Card.is

pub returns-in-Status : goal.returns-in-Status
unfolding frequency_of
returns-in-Status c = rw c.in-Status.is

pub returns-in-Blocks : goal.returns-in-Blocks
unfolding frequency_of
returns-in-Blocks c = rw c.in-Blocks.is

pub returns-in-Sends : goal.returns-in-Sends
unfolding frequency_of
returns-in-Sends c = rw c.in-Sends.is
