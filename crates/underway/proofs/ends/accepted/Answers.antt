use mathlib.Core.Path.{refl, ◌∙◌}
use Rattle.step.specs.Transfer.{taken_by, sends_of, transfer_of}
use Rattle.stepping.specs.Ahead.{phase_by, phase_of, host_by}
use Rattle.underway.proofs.ends.accepted.Goals as goal

pub returns-in-Card : goal.returns-in-Card
unfolding host_by phase_by phase_of taken_by sends_of transfer_of
returns-in-Card c = λ g. rw c.in-Card.is (c.with.ensures ∙ rw (c.with_status.ensures, c.status_of.ensures) refl)

pub returns-in-Status : goal.returns-in-Status
unfolding host_by phase_by phase_of taken_by sends_of transfer_of
returns-in-Status c = λ g. rw c.in-Status.is (c.with-in-Status.ensures ∙ rw (c.with_status-in-Status.ensures, c.status_of-in-Status.ensures) refl)

pub returns-in-Blocks : goal.returns-in-Blocks
unfolding host_by phase_by phase_of taken_by sends_of transfer_of
returns-in-Blocks c = λ g. rw c.in-Blocks.is c.with-in-Blocks.ensures

pub returns-in-Sends : goal.returns-in-Sends
unfolding host_by phase_by phase_of taken_by sends_of transfer_of
returns-in-Sends c = λ g. rw c.in-Sends.is c.with-in-Sends.ensures
