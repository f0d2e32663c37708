use native.Mathlib.Omega.{arith}
use mathlib.Core.Path.{refl}
use Rattle.tape.specs.Plan.{give}
use Rattle.bus.specs.Transfer.{wait_data}
use Rattle.tape.proofs.Behind.{further}
use Rattle.tape.proofs.Took.{gives, carry, cut}
use Rattle.tape.proofs.Tries.{none_tried, tried_on, enough-now, stopped-now, once-more, spent}
use Rattle.bus.proofs.poll.wait_data.Goals as goal

pub loop-init : goal.loop-init
loop-init c = λ s rows part. none_tried

-- words are only ever taken, so what is left of what is left is what is left of the script
pub overflow_sub-head : goal.overflow_sub-head
overflow_sub-head c = omega (arith, tried_on c.loop.invariant)

pub returns-in_err-data_complete : goal.returns-in_err-data_complete
unfolding wait_data
returns-in_err-data_complete c = let inv = c.loop.invariant in
    λ s l part. cut _ (stopped-now (inv s l part) c.loop-test.true (c.in_err-data_complete.ensures s l (further part (tried_on inv) c.rest-left.ensures.part))) c.from_residual.ensures.1

pub returns-then-branch : goal.returns-then-branch
unfolding wait_data
returns-then-branch c = let inv = c.loop.invariant in
    λ s l part. carry (λ _. give tt) (enough-now (inv s l part) c.loop-test.true (c.in_ok-data_complete.ensures s l (further part (tried_on inv) c.rest-left.ensures.part)) c.if-branch.true) gives

pub loop-preserved : goal.loop-preserved
loop-preserved c = let inv = c.loop.invariant in
    λ s l part. once-more (inv s l part) c.loop-test.true (c.in_ok-data_complete.ensures s l (further part (tried_on inv) c.rest-left.ensures.part)) c.if-branch.false

pub returns : goal.returns
unfolding wait_data
returns c = λ s l part. cut _ (spent (c.loop.invariant s l part) c.loop-test.false) refl
