use mathlib.Core.Path.{ap}
use native.Mathlib.Omega.{arith}
use Rattle.tape.specs.Plan.{Nothing}
use Rattle.tape.specs.Run.{After}
use Rattle.bus.specs.Transfer.{receive, landed}
use Rattle.tape.proofs.Lying.{lies_passed}
use Rattle.tape.proofs.Took.{read_further, passed-as, cut, next}
use Rattle.bus.proofs.transfer.receive.Goals as goal

pub returns-in_err-wait_data-clause-took : goal.returns-in_err-wait_data-clause-took
unfolding receive landed
returns-in_err-wait_data-clause-took c = λ l. cut _ (c.in_err-wait_data.ensures _ l c.rest-rest.ensures.part) (passed-as _ c.from_residual.result _ c.from_residual.ensures.1)

pub returns-in_err-wait_data-clause-lie : goal.returns-in_err-wait_data-clause-lie
returns-in_err-wait_data-clause-lie c = λ l. lies_passed c.from_residual.result _ c.from_residual.ensures.1

pub returns-clause-took : goal.returns-clause-took
unfolding receive landed
returns-clause-took c = λ l. next (c.in_ok-wait_data.ensures _ l c.rest-rest.ensures.part) (c.take_data.ensures.took _ l c.rest-rest.ensures.part)

pub returns-clause-lie : goal.returns-clause-lie
returns-clause-lie c = λ l. rw (ap (λ (x : After Nothing). x.state.progress.used) (c.in_ok-wait_data.ensures _ l c.rest-rest.ensures.part).gave.same) at (c.take_data.ensures.lie _ c.rest-rest.ensures.part)

pub take_data-requires : goal.take_data-requires
take_data-requires c = omega (arith, read_further c.in_ok-wait_data.ensures, c.rest-rest.ensures.fits)
