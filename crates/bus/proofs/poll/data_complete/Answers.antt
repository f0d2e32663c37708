use borrow.Author.Tests.{eq-eqb, ne_eqb}
use native.Mathlib.Omega.{arith}
use Rattle.bus.specs.Transfer.{data_complete}
use Rattle.tape.proofs.Took.{gives, carry, cut, on_true, on_false, read_further}
use Rattle.bus.proofs.poll.data_complete.Goals as goal

pub returns-in_err-first : goal.returns-in_err-first
unfolding data_complete
returns-in_err-first c = λ s l part. cut _ (c.in_err-first.ensures s l part) c.from_residual.ensures.1

pub settle-requires : goal.settle-requires
settle-requires c = omega (arith, read_further c.in_ok-first.ensures, c.requires)

pub returns-then-first-eq0 : goal.returns-then-first-eq0
unfolding data_complete
returns-then-first-eq0 c = λ s l part. carry _ (c.in_ok-first.ensures s l part) (on_true _ (eq-eqb _ _ c.if-first-eq0.true) (c.settle.ensures s l part))

pub returns-else-first-eq0 : goal.returns-else-first-eq0
unfolding data_complete
returns-else-first-eq0 c = λ s l part. carry _ (c.in_ok-first.ensures s l part) (on_false _ (ne_eqb _ _ c.if-first-eq0.false) gives)
