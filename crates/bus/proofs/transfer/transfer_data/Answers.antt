use mathlib.Core.Path.{refl, ap}
use Rattle.tape.specs.Layout.{rows_in}
use Rattle.tape.specs.Plan.{Nothing}
use Rattle.tape.specs.Run.{After}
use Rattle.bus.specs.Transfer.{wait_data, transfer_data}
use Rattle.tape.proofs.Laws.{seq}
use Rattle.tape.proofs.Lying.{lies_passed}
use Rattle.tape.proofs.Took.{passed-as, carry, cut, gives, next}
use Rattle.bus.proofs.transfer.transfer_data.Goals as goal

pub returns-in_err-start_data-clause-took : goal.returns-in_err-start_data-clause-took
unfolding transfer_data
returns-in_err-start_data-clause-took c = cut _ (c.in_err-start_data.ensures) (passed-as _ c.from_residual.result _ c.from_residual.ensures.1)

pub returns-in_err-start_data-clause-lie : goal.returns-in_err-start_data-clause-lie
returns-in_err-start_data-clause-lie c = lies_passed c.from_residual.result _ c.from_residual.ensures.1

pub returns-in_err-words-clause-took : goal.returns-in_err-words-clause-took
unfolding transfer_data
returns-in_err-words-clause-took c = next (c.in_ok-start_data.ensures) (cut _ (c.in_err-words.ensures.took _) (passed-as _ c.from_residual-in_err-words.result _ c.from_residual-in_err-words.ensures.1))

pub returns-in_err-words-clause-lie : goal.returns-in_err-words-clause-lie
returns-in_err-words-clause-lie c = lies_passed c.from_residual-in_err-words.result _ c.from_residual-in_err-words.ensures.1

pub returns-in_err-end_data-clause-took : goal.returns-in_err-end_data-clause-took
unfolding transfer_data
returns-in_err-end_data-clause-took c = next (c.in_ok-start_data.ensures) (carry _ (c.in_ok-words.ensures.took _) (cut _ (c.in_err-end_data.ensures) (passed-as _ c.from_residual-in_err-end_data.result _ c.from_residual-in_err-end_data.ensures.1)))

pub returns-in_err-end_data-clause-lie : goal.returns-in_err-end_data-clause-lie
returns-in_err-end_data-clause-lie c = lies_passed c.from_residual-in_err-end_data.result _ c.from_residual-in_err-end_data.ensures.1

pub returns-clause-took : goal.returns-clause-took
unfolding transfer_data
returns-clause-took c = next (c.in_ok-start_data.ensures) (carry _ (c.in_ok-words.ensures.took _) (next (c.in_ok-end_data.ensures) (gives)))

-- the polls begin where the start has come to
pub returns-clause-lie : goal.returns-clause-lie
returns-clause-lie c =
    let place = ap (λ (x : After Nothing). x.state.progress.used) (seq {q = wait_data c.args.config.poll_limit} c.in_ok-start_data.ensures.gave (record { same = refl })).same in
    rw place at (c.in_ok-words.ensures.lie (rows_in c.start_data.new.rows))
