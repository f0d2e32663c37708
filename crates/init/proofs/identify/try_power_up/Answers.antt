use mathlib.Core.Bool.{not}
use mathlib.Core.Path.{ap}
use borrow.Author.Tests.{eq-eqb, ne_eqb}
use Rattle.init.specs.Initialise.{try_power_up}
use Rattle.tape.proofs.Took.{gives, next, carry, cut, on_true, on_false}
use Rattle.init.proofs.identify.try_power_up.Goals as goal

pub returns-in_err-ocr : goal.returns-in_err-ocr
unfolding try_power_up
returns-in_err-ocr c = cut _ c.in_err-ocr.ensures c.from_residual.ensures.1

pub returns-then-ocr-ne0 : goal.returns-then-ocr-ne0
unfolding try_power_up
returns-then-ocr-ne0 c = carry _ c.in_ok-ocr.ensures (on_true _ (ap not (ne_eqb _ _ c.if-ocr-ne0.true)) gives)

pub returns-in_err-retry_delay : goal.returns-in_err-retry_delay
unfolding try_power_up
returns-in_err-retry_delay c = carry _ c.in_ok-ocr.ensures
    (on_false _ (ap not (eq-eqb _ _ c.if-ocr-ne0.false)) (cut _ (c.in_err-retry_delay.ensures _) c.from_residual-in_err-retry_delay.ensures.1))

pub returns : goal.returns
unfolding try_power_up
returns c = carry _ c.in_ok-ocr.ensures (on_false _ (ap not (eq-eqb _ _ c.if-ocr-ne0.false)) (next (c.in_ok-retry_delay.ensures _) gives))
