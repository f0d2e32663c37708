use Rattle.step.specs.Command.{polling, polled_at}
use Rattle.step.specs.Context.{plug}
use Rattle.tape.specs.Plan.{handle, ensure}
use borrow.Author.Tests.{eq-eqb, ne_eqb}
use Rattle.step.proofs.command.Command.polled.Goals as goal

pub returns-then-word-ne0 : goal.returns-then-word-ne0
unfolding polled_at plug ensure handle
returns-then-word-ne0 c = λ h. rw (ne_eqb _ _ c.if-word-ne0.true) (c.fails.ensures h)

pub returns-then-word-form-ne0 : goal.returns-then-word-form-ne0
unfolding polled_at plug ensure handle
returns-then-word-form-ne0 c = λ h. rw (eq-eqb _ _ c.if-word-ne0.false, ← c.form-form.ensures, ne_eqb _ _ c.if-word-form-ne0.true) (rw (← c.form-form.ensures) at (c.answers.ensures h))

pub returns-else-word-form-ne0 : goal.returns-else-word-form-ne0
unfolding polled_at polling plug ensure handle
returns-else-word-form-ne0 c = λ h. rw (eq-eqb _ _ c.if-word-ne0.false, ← c.form-form.ensures, eq-eqb _ _ c.if-word-form-ne0.false) (rw (← c.form-form.ensures) at (c.polls.ensures h))
