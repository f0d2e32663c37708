use Rattle.tape.proofs.steps.idle_mask.Goals as goal

pub returns-then-data : goal.returns-then-data
returns-then-data c = rw c.if-data.true

pub returns-else-data : goal.returns-else-data
returns-else-data c = rw c.if-data.false
