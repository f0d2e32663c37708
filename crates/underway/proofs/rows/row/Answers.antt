use mathlib.Core.Path.{refl}
use Rattle.stepping.specs.Ahead.{row_at}
use Rattle.underway.proofs.rows.row.Goals as goal

pub returns-in-Reset : goal.returns-in-Reset
unfolding row_at
returns-in-Reset c = rw c.in-Reset.is c.row.ensures

pub returns-in-Clock : goal.returns-in-Clock
unfolding row_at
returns-in-Clock c = rw c.in-Clock.is c.clock_row.ensures

pub returns-in-Power : goal.returns-in-Power
unfolding row_at
returns-in-Power c = rw c.in-Power.is c.written.ensures

pub returns-in-Open : goal.returns-in-Open
unfolding row_at
returns-in-Open c = rw (c.in-Open.is, c.written-in-Open.ensures, c.with_clken.ensures) refl

pub returns-in-Delay : goal.returns-in-Delay
unfolding row_at
returns-in-Delay c = rw c.in-Delay.is c.written-in-Delay.ensures

pub returns-in-Retry : goal.returns-in-Retry
unfolding row_at
returns-in-Retry c = rw (c.in-Retry.is, c.written-in-Retry.ensures, c.millisecond.ensures) refl

pub returns-in-Settle : goal.returns-in-Settle
unfolding row_at
returns-in-Settle c = rw c.in-Settle.is c.written-in-Settle.ensures

pub returns-in-Close : goal.returns-in-Close
unfolding row_at
returns-in-Close c = rw c.in-Close.is c.row-in-Close.ensures
