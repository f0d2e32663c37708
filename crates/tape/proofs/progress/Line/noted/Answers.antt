use borrow.Author.Tests.{eq-eqb, ne_eqb}
use Rattle.tape.specs.Run.{noted}
use Rattle.tape.proofs.progress.Line.noted.Goals as goal

pub returns-then-register-eq-CLKCR : goal.returns-then-register-eq-CLKCR
unfolding noted
returns-then-register-eq-CLKCR c = rw (eq-eqb _ _ c.if-register-eq-CLKCR.true)

pub returns-else-register-eq-CLKCR : goal.returns-else-register-eq-CLKCR
unfolding noted
returns-else-register-eq-CLKCR c = rw (ne_eqb _ _ c.if-register-eq-CLKCR.false)
