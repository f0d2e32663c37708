use Rattle.tape.specs.declared.script.Reading.TheVariants as Reading
use Rattle.bus.specs.Command.{echo}
use Rattle.tape.proofs.Took.{gives, carry, cut, on_true, on_false}
use Rattle.bus.proofs.command.check_echo.Goals as goal

pub returns-in_err-echo : goal.returns-in_err-echo
unfolding echo
returns-in_err-echo c = λ s l part. on_true _ c.if-form.true (cut _ (c.in_err-echo.ensures Reading.RespCmd s l part) c.from_residual.ensures.1)

pub returns-then-form : goal.returns-then-form
unfolding echo
returns-then-form c = λ s l part. on_true _ c.if-form.true (carry _ (c.in_ok-echo.ensures Reading.RespCmd s l part) (c.ensure.ensures s _ l))

pub returns : goal.returns
unfolding echo
returns c = λ s l part. on_false _ c.if-form.false gives
