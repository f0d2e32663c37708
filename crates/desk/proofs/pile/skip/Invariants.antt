use Rattle.desk.specs.Pile.{Past}
use Rattle.desk.proofs.pile.skip.Given as goal

abbrev pub invariant-loop-left : goal.invariant-loop-left
invariant-loop-left g l = Past (g.R.Read.remaining l.initial.source.from) (g.R.Read.remaining l.source.from) l.left l.count

abbrev pub decreases-loop-left : goal.decreases-loop-left
decreases-loop-left g l = l.left
