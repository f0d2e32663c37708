use Rattle.feed.specs.Runs.{count_of}
use Rattle.feed.proofs.feed.count.Goals as goal

pub returns-in-Accepted : goal.returns-in-Accepted
unfolding count_of
returns-in-Accepted c = rw c.in-Accepted.is

pub returns-in-Refused : goal.returns-in-Refused
unfolding count_of
returns-in-Refused c = rw c.in-Refused.is

pub returns-in-ScriptEnded : goal.returns-in-ScriptEnded
unfolding count_of
returns-in-ScriptEnded c = rw c.in-ScriptEnded.is

pub returns-in-TraceFull : goal.returns-in-TraceFull
unfolding count_of
returns-in-TraceFull c = rw c.in-TraceFull.is

pub returns-in-BadBook : goal.returns-in-BadBook
unfolding count_of
returns-in-BadBook c = rw c.in-BadBook.is
