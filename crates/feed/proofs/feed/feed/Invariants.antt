use mathlib.Core.List.{[]}
use Rattle.types.specs.Words.{words_of}
use Rattle.tape.specs.Layout.{rows_in}
use Rattle.underway.specs.Under.{under}
use Rattle.feed.specs.Runs.{next_span}
use Rattle.feed.specs.Turns.{lent, way_of}
use Rattle.feed.proofs.Fed as F
use Rattle.feed.proofs.feed.feed.Given as goal

abbrev pub invariant-loop-next : goal.invariant-loop-next
invariant-loop-next l = F.On l.script (words_of l.data) (way_of (lent (words_of l.data) []) l.initial.feeding) (rows_in l.initial.rows) l.feeding (rows_in l.rows)

abbrev pub decreases-loop-next : goal.decreases-loop-next
decreases-loop-next l = next_span l.script (under (lent (words_of l.data) []) l.feeding.call).ahead l.feeding.used
