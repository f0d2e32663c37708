use Rattle.init.proofs.identify.condition.Goals as goal

pub returns-then-version2 : goal.returns-then-version2
returns-then-version2 c = rw c.if-version2.true

pub returns-else-version2 : goal.returns-else-version2
returns-else-version2 c = rw c.if-version2.false
