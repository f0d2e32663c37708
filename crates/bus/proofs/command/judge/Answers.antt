use Rattle.bus.specs.Command.{judge}
use Rattle.tape.proofs.Took.{cut, gives, next}
use Rattle.bus.proofs.command.judge.Goals as goal

pub returns-in_err-ensure : goal.returns-in_err-ensure
unfolding judge
returns-in_err-ensure c = λ s h l. cut _ (c.in_err-ensure.ensures s h l) c.from_residual.ensures.1

pub returns-in_err-ensure-2 : goal.returns-in_err-ensure-2
unfolding judge
returns-in_err-ensure-2 c = λ s h l. next (c.in_ok-ensure.ensures s h l) (cut _ (c.in_err-ensure-2.ensures s h l) c.from_residual-in_err-ensure-2.ensures.1)

pub returns : goal.returns
unfolding judge
returns c = λ s h l. next (c.in_ok-ensure.ensures s h l) (next (c.in_ok-ensure-2.ensures s h l) (gives))
