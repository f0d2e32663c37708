use Rattle.host.specs.Calls.{ends}
use Rattle.host.proofs.host.Sdmmc.ends.Goals as goal

pub returns-in-Refused : goal.returns-in-Refused
unfolding ends
returns-in-Refused c = λ accepted words l. rw c.in-Refused.is c.called.ensures

pub returns-in-ScriptEnded : goal.returns-in-ScriptEnded
unfolding ends
returns-in-ScriptEnded c = λ accepted words l. rw c.in-ScriptEnded.is c.called-in-ScriptEnded.ensures

pub returns-in-TraceFull : goal.returns-in-TraceFull
unfolding ends
returns-in-TraceFull c = λ accepted words l. rw c.in-TraceFull.is c.called-in-TraceFull.ensures
