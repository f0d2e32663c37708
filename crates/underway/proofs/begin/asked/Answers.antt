use mathlib.Core.Path.{refl}
use Rattle.underway.specs.First.{asked_by}
use Rattle.underway.proofs.begin.asked.Goals as goal

pub returns-in-Refused : goal.returns-in-Refused
unfolding asked_by
returns-in-Refused c = rw c.in-Refused.is refl

pub returns-in-Resets : goal.returns-in-Resets
unfolding asked_by
returns-in-Resets c = rw c.in-Resets.is refl

pub returns-in-Reads : goal.returns-in-Reads
unfolding asked_by
returns-in-Reads c = rw c.in-Reads.is refl

pub returns-in-Sends : goal.returns-in-Sends
unfolding asked_by
returns-in-Sends c = rw c.in-Sends.is refl

pub returns-in-App : goal.returns-in-App
unfolding asked_by
returns-in-App c = rw c.in-App.is refl
