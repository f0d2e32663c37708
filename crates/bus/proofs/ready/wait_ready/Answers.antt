use mathlib.Core.Path.{refl}
use Rattle.tape.specs.Plan.{give}
use Rattle.tape.proofs.Took.{gives, carry, cut}
use Rattle.tape.proofs.Tries.{none_tried, enough-now, stopped-now, once-more, spent}
use Rattle.bus.specs.Ready.{wait_ready}
use Rattle.bus.proofs.ready.wait_ready.Goals as goal

pub loop-init : goal.loop-init
loop-init c = none_tried

pub returns-in_err-try_ready : goal.returns-in_err-try_ready
unfolding wait_ready
returns-in_err-try_ready c = cut _ (stopped-now c.loop.invariant c.loop-test.true c.in_err-try_ready.ensures) c.from_residual.ensures.1

pub returns-then-branch : goal.returns-then-branch
unfolding wait_ready
returns-then-branch c = carry (λ _. give tt) (enough-now c.loop.invariant c.loop-test.true c.in_ok-try_ready.ensures c.if-branch.true) gives

pub loop-preserved : goal.loop-preserved
loop-preserved c = once-more c.loop.invariant c.loop-test.true c.in_ok-try_ready.ensures c.if-branch.false

pub returns : goal.returns
unfolding wait_ready
returns c = cut _ (spent c.loop.invariant c.loop-test.false) refl
