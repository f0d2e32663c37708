use Rattle.feed.specs.Turns.{goes_on}
use Rattle.feed.proofs.turn.Event.goes_on.Goals as goal

pub returns-in-Read : goal.returns-in-Read
unfolding goes_on
returns-in-Read c = rw c.in-Read.is

pub returns-in-Missed : goal.returns-in-Missed
unfolding goes_on
returns-in-Missed c = rw c.in-Missed.is

pub returns-in-Wrote : goal.returns-in-Wrote
unfolding goes_on
returns-in-Wrote c = rw c.in-Wrote.is

pub returns-in-Full : goal.returns-in-Full
unfolding goes_on
returns-in-Full c = rw c.in-Full.is

pub returns-in-Over : goal.returns-in-Over
unfolding goes_on
returns-in-Over c = rw c.in-Over.is
