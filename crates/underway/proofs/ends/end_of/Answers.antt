use mathlib.Core.Path.{refl}
use Rattle.underway.specs.Under.{ends_at}
use Rattle.underway.proofs.ends.end_of.Goals as goal

pub returns-in-Command : goal.returns-in-Command
unfolding ends_at
returns-in-Command c = rw c.in-Command.is refl

pub returns-in-Ready : goal.returns-in-Ready
unfolding ends_at
returns-in-Ready c = rw c.in-Ready.is refl

pub returns-in-Data : goal.returns-in-Data
unfolding ends_at
returns-in-Data c = rw c.in-Data.is refl

pub returns-in-Idle : goal.returns-in-Idle
unfolding ends_at
returns-in-Idle c = rw c.in-Idle.is refl

pub returns-in-Tells : goal.returns-in-Tells
unfolding ends_at
returns-in-Tells c = rw c.in-Tells.is refl

pub returns-in-Over : goal.returns-in-Over
unfolding ends_at
returns-in-Over c = rw c.in-Over.is refl
