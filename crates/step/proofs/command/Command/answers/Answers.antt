use mathlib.Core.Path.{◌∙◌}
use Rattle.step.specs.Command.{end_next, asks_plan}
use Rattle.step.specs.Context.{plug}
use Rattle.tape.specs.Plan.{handle, ensure}
use Rattle.bus.specs.Command.{echo, answer}
use borrow.Author.Tests.{eq-eqb, ne_eqb}
use Rattle.step.proofs.command.Command.answers.Goals as goal

pub returns-then-form : goal.returns-then-form
unfolding answer end_next
returns-then-form c = λ h. rw (← c.form-form.ensures, c.if-form.true) (c.ends.ensures h)

pub returns-then-status-form-ne0 : goal.returns-then-status-form-ne0
unfolding answer ensure handle
returns-then-status-form-ne0 c = λ h. rw (← c.form-form.ensures, c.if-form.false, ne_eqb _ _ c.if-status-form-ne0.true) (c.fails.ensures h)

pub returns-then-form-2 : goal.returns-then-form-2
unfolding answer ensure handle echo asks_plan plug
returns-then-form-2 c = λ h. c.asks.ensures h ∙ rw (← c.form-form.ensures, c.if-form.false, eq-eqb _ _ c.if-status-form-ne0.false, c.if-form-2.true)

pub returns-else-form-2 : goal.returns-else-form-2
unfolding answer ensure handle echo asks_plan plug
returns-else-form-2 c = λ h. c.asks-else-form-2.ensures h ∙ rw (← c.form-form.ensures, c.if-form.false, eq-eqb _ _ c.if-status-form-ne0.false, c.if-form-2.false)
