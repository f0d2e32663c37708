use mathlib.Core.Path.{refl}
use Rattle.underway.specs.Under.{kept_at, KeptAt}
use Rattle.step.proofs.Words.{handed-sent}
use Rattle.underway.proofs.Moving as M
use Rattle.underway.proofs.steps.kept.Goals as goal

pub returns-in-Command : goal.returns-in-Command
unfolding kept_at KeptAt
returns-in-Command c = record { set = rw c.in-Command.is refl; handed = λ j k h g g' same e. rw c.in-Command.is (handed-sent _ _ g g' e) }

pub returns-in-Ready : goal.returns-in-Ready
unfolding kept_at KeptAt
returns-in-Ready c = record { set = rw c.in-Ready.is refl; handed = λ j k h g g' same e. rw c.in-Ready.is (handed-sent _ _ g g' e) }

pub returns-in-Data : goal.returns-in-Data
unfolding kept_at KeptAt
returns-in-Data c = record { set = rw c.in-Data.is (rw c.phase.ensures at c.keeps.ensures.kept); handed = λ j k h g g' same e. rw c.in-Data.is ((rw c.phase.ensures at (c.keeps.ensures.handed g g')) (M.data_hands j k h _ g _ _ _ _ g' same (rw c.in-Data.is at e))) }

pub returns-in-Idle : goal.returns-in-Idle
unfolding kept_at KeptAt
returns-in-Idle c = record { set = rw c.in-Idle.is refl; handed = λ j k h g g' same e. rw c.in-Idle.is tt }

pub returns-in-Tells : goal.returns-in-Tells
unfolding kept_at KeptAt
returns-in-Tells c = record { set = rw c.in-Tells.is refl; handed = λ j k h g g' same e. rw c.in-Tells.is tt }

pub returns-in-Over : goal.returns-in-Over
unfolding kept_at KeptAt
returns-in-Over c = record { set = rw c.in-Over.is refl; handed = λ j k h g g' same e. rw c.in-Over.is (M.over_hands j k h _ g g' _ _ _ (rw c.in-Over.is at e)) }
