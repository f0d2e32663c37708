use native.Mathlib.Omega.{arith}
use Rattle.bus.specs.Command.{answer}
use Rattle.tape.proofs.Took.{gives, next, carry, cut, on_true, on_false, read_further}
use Rattle.bus.proofs.command.take_answer.Goals as goal

pub returns-then-form : goal.returns-then-form
unfolding answer
returns-then-form c = λ s l part. on_true _ c.if-form.true gives

pub returns-in_err-ensure : goal.returns-in_err-ensure
unfolding answer
returns-in_err-ensure c = λ s l part. on_false _ c.if-form.false (cut _ (c.in_err-ensure.ensures s _ l) c.from_residual.ensures.1)

pub returns-in_err-check_echo : goal.returns-in_err-check_echo
unfolding answer
returns-in_err-check_echo c = λ s l part. on_false _ c.if-form.false
    (next (c.in_ok-ensure.ensures s _ l) (cut _ (c.in_err-check_echo.ensures s l part) c.from_residual-in_err-check_echo.ensures.1))

pub take_words-requires : goal.take_words-requires
take_words-requires c = omega (arith, read_further c.in_ok-check_echo.ensures, c.requires)

pub returns-in_err-words : goal.returns-in_err-words
unfolding answer
returns-in_err-words c = λ s l part. on_false _ c.if-form.false
    (next (c.in_ok-ensure.ensures s _ l)
    (next (c.in_ok-check_echo.ensures s l part) (cut _ (c.in_err-words.ensures s l part) c.from_residual-in_err-words.ensures.1)))

pub returns : goal.returns
unfolding answer
returns c = λ s l part. on_false _ c.if-form.false
    (next (c.in_ok-ensure.ensures s _ l)
    (next (c.in_ok-check_echo.ensures s l part) (carry _ (c.in_ok-words.ensures s l part) (c.judge.ensures s _ l))))
