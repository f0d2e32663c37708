use mathlib.Core.Path.{sym}
use Rattle.step.specs.Command.{shut, tells_plan}
use Rattle.step.specs.Context.{plug, wants_write}
use Rattle.tape.specs.Plan.{handle}
use Rattle.tape.specs.Steps.{row, set_clken}
use Rattle.bus.specs.Command.{issue}
use Rattle.step.specs.Next.{next, want_of}
use Rattle.step.proofs.command.Command.row.Goals as goal

pub returns-in-Open : goal.returns-in-Open
unfolding tells_plan set_clken row handle next want_of
returns-in-Open c = rw (c.with_clken.ensures, c.in-Open.is)

pub returns-in-Icr : goal.returns-in-Icr
unfolding tells_plan issue row handle plug
returns-in-Icr c = rw c.in-Icr.is (sym (wants_write (shut _) _ _ _))

pub returns-in-Argument : goal.returns-in-Argument
unfolding tells_plan row handle plug
returns-in-Argument c = rw c.in-Argument.is (sym (wants_write (shut _) _ _ _))

pub returns-in-Order : goal.returns-in-Order
unfolding tells_plan row handle plug
returns-in-Order c = rw (c.cmd.ensures, c.form-form.ensures, c.in-Order.is) (sym (wants_write (shut _) _ _ _))

pub returns-in-Close : goal.returns-in-Close
unfolding tells_plan set_clken row handle next want_of
returns-in-Close c = rw (c.with_clken-in-Close.ensures, c.in-Close.is)
