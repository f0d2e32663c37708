use borrow.Author.Tests.{eq-eqb, ne_eqb}
use Rattle.init.specs.Initialise.{version}
use Rattle.tape.proofs.Took.{gives, next, cut, on_true, on_false}
use Rattle.init.proofs.begin.version.Goals as goal

pub returns-then-word-eq-CONDITION : goal.returns-then-word-eq-CONDITION
unfolding version
returns-then-word-eq-CONDITION c = λ s h l. on_true _ (eq-eqb _ _ c.if-word-eq-CONDITION.true) gives

pub returns-in_err-ensure : goal.returns-in_err-ensure
unfolding version
returns-in_err-ensure c = λ s h l. on_false _ (ne_eqb _ _ c.if-word-eq-CONDITION.false) (cut _ (c.in_err-ensure.ensures s h l) c.from_residual.ensures.1)

pub returns : goal.returns
unfolding version
returns c = λ s h l. on_false _ (ne_eqb _ _ c.if-word-eq-CONDITION.false) (next (c.in_ok-ensure.ensures s h l) gives)
