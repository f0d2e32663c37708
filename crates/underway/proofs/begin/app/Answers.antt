use Rattle.underway.proofs.Beginning as B
use Rattle.underway.proofs.begin.app.Goals as goal

pub returns-in-Some : goal.returns-in-Some
returns-in-Some c = λ j k held g h gate. B.app-on j k held g h _ _ _ gate _ (rw c.in-Some.is at (c.begin-begun.ensures h))

pub returns-in-None : goal.returns-in-None
returns-in-None c = λ j k held g h gate. B.app-spent j k held g h _ _ _ gate (rw c.in-None.is at (c.begin-begun.ensures h))
