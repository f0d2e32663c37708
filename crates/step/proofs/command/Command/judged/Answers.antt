use Rattle.step.specs.Command.{end_next}
use Rattle.tape.specs.Plan.{handle, ensure}
use Rattle.bus.specs.Command.{judge}
use borrow.Author.Tests.{eq-eqb, ne_eqb}
use Rattle.step.proofs.command.Command.judged.Goals as goal

pub returns-then-first-form-ne0 : goal.returns-then-first-form-ne0
unfolding judge ensure handle
returns-then-first-form-ne0 c = λ h. rw (← c.form-form.ensures, ne_eqb _ _ c.if-first-form-ne0.true) (c.fails.ensures h)

pub returns-then-first-form-ne0-2 : goal.returns-then-first-form-ne0-2
unfolding judge ensure handle
returns-then-first-form-ne0-2 c = λ h. rw (← c.form-form.ensures, eq-eqb _ _ c.if-first-form-ne0.false, ne_eqb _ _ c.if-first-form-ne0-2.true) (c.fails-then-first-form-ne0-2.ensures h)

pub returns : goal.returns
unfolding judge ensure handle end_next
returns c = λ h. rw (← c.form-form.ensures, eq-eqb _ _ c.if-first-form-ne0.false, eq-eqb _ _ c.if-first-form-ne0-2.false) (c.ends.ensures h)
