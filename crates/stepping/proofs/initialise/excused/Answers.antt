use Rattle.stepping.specs.Ahead.{excused}
use Rattle.stepping.proofs.initialise.excused.Goals as goal

pub returns-in-Failed : goal.returns-in-Failed
unfolding excused
returns-in-Failed c = rw c.in-Failed.is c.timed_out.ensures

pub returns-in-NoWord : goal.returns-in-NoWord
unfolding excused
returns-in-NoWord c = rw c.in-NoWord.is
