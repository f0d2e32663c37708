use mathlib.Core.Path.{refl}
use Rattle.stepping.specs.Ahead.{line_set}
use Rattle.underway.proofs.rows.after.Goals as goal

pub returns-in-Reset : goal.returns-in-Reset
unfolding line_set
returns-in-Reset c = rw c.in-Reset.is refl

pub returns-in-Clock : goal.returns-in-Clock
returns-in-Clock c = rw c.in-Clock.is c.set.ensures

pub returns-in-Power : goal.returns-in-Power
unfolding line_set
returns-in-Power c = rw c.in-Power.is refl

pub returns-in-Open : goal.returns-in-Open
unfolding line_set
returns-in-Open c = rw c.in-Open.is refl

pub returns-in-Delay : goal.returns-in-Delay
unfolding line_set
returns-in-Delay c = rw c.in-Delay.is refl

pub returns-in-Retry : goal.returns-in-Retry
unfolding line_set
returns-in-Retry c = rw c.in-Retry.is refl

pub returns-in-Settle : goal.returns-in-Settle
unfolding line_set
returns-in-Settle c = rw c.in-Settle.is refl

pub returns-in-Close : goal.returns-in-Close
unfolding line_set
returns-in-Close c = rw c.in-Close.is refl
