use mathlib.Core.Path.{refl}
use Rattle.underway.specs.First.{line_by}
use Rattle.underway.proofs.begin.line.Goals as goal

pub returns-in-Refused : goal.returns-in-Refused
unfolding line_by
returns-in-Refused c = rw c.in-Refused.is refl

pub returns-in-Resets : goal.returns-in-Resets
unfolding line_by
returns-in-Resets c = rw c.in-Resets.is c.fresh_line.ensures

pub returns-in-Reads : goal.returns-in-Reads
unfolding line_by
returns-in-Reads c = rw c.in-Reads.is refl

pub returns-in-Sends : goal.returns-in-Sends
unfolding line_by
returns-in-Sends c = rw c.in-Sends.is refl

pub returns-in-App : goal.returns-in-App
unfolding line_by
returns-in-App c = rw c.in-App.is refl
