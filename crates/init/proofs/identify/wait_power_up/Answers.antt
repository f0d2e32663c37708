use mathlib.Core.Bool.{not}
use mathlib.Core.Path.{ap}
use borrow.Author.Tests.{eq-eqb, ne_eqb}
use Rattle.init.specs.Initialise.{wait_power_up}
use Rattle.tape.proofs.Took.{passed}
use Rattle.tape.proofs.Tries.{none_tried, enough-now, stopped-now, once-more, spent}
use Rattle.init.proofs.identify.wait_power_up.Goals as goal

pub loop-init : goal.loop-init
loop-init c = none_tried

pub returns-in_err-ocr : goal.returns-in_err-ocr
unfolding wait_power_up
returns-in_err-ocr c = passed c.from_residual.ensures.1 (stopped-now c.loop.invariant c.loop-test.true c.in_err-ocr.ensures)

pub returns-then-ocr-ne0 : goal.returns-then-ocr-ne0
unfolding wait_power_up
returns-then-ocr-ne0 c = enough-now c.loop.invariant c.loop-test.true c.in_ok-ocr.ensures (ap not (ne_eqb _ _ c.if-ocr-ne0.true))

pub loop-preserved : goal.loop-preserved
loop-preserved c = once-more c.loop.invariant c.loop-test.true c.in_ok-ocr.ensures (ap not (eq-eqb _ _ c.if-ocr-ne0.false))

pub returns : goal.returns
unfolding wait_power_up
returns c = spent c.loop.invariant c.loop-test.false
