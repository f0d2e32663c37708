use Rattle.bus.proofs.transfer.control.Goals as goal

pub returns : goal.returns
returns c = λ s. rw c.dctrl-value.ensures at (c.write_row.ensures s)
