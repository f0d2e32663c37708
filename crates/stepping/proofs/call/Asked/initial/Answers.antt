use Rattle.stepping.specs.Ahead.{initial_of}
use Rattle.stepping.proofs.call.Asked.initial.Goals as goal

pub returns-in-Card : goal.returns-in-Card
unfolding initial_of
returns-in-Card c = rw c.in-Card.is

pub returns-in-Status : goal.returns-in-Status
unfolding initial_of
returns-in-Status c = rw c.in-Status.is c.no_clock.ensures

pub returns-in-Blocks : goal.returns-in-Blocks
unfolding initial_of
returns-in-Blocks c = rw c.in-Blocks.is c.no_clock-in-Blocks.ensures

pub returns-in-Sends : goal.returns-in-Sends
unfolding initial_of
returns-in-Sends c = rw c.in-Sends.is c.no_clock-in-Sends.ensures
