use mathlib.Core.List.{[]}
use mathlib.Core.Path.{◌≡◌}
use lib.ListN.{length}
use Rattle.types.specs.Words.{words_of}
use Rattle.tape.specs.Layout.{rows_in}
use Rattle.underway.specs.Under.{under}
use Rattle.feed.specs.Runs.{next_span}
use Rattle.feed.specs.Turns.{lent, way_of}
use Rattle.sheet.specs.Sheet.{Fits}
use Rattle.telling.specs.Told.{leaf}
use Rattle.telling.proofs.Turning.{Telling}
use Rattle.telling.proofs.take_turns.Given as goal

abbrev pub invariant-loop-page : goal.invariant-loop-page
invariant-loop-page g l = (length l.rows ≡ length l.initial.rows)
    × (length l.out ≡ length l.initial.out)
    × Fits l.page l.out
    × Telling l.script (words_of l.«data») (way_of (lent (words_of l.«data») []) l.initial.feeding) (rows_in l.initial.rows) (leaf l.initial.page.at l.initial.out) l.feeding (rows_in l.rows) (leaf l.page.at l.out)

abbrev pub decreases-loop-page : goal.decreases-loop-page
decreases-loop-page g l = next_span l.script (under (lent (words_of l.«data») []) l.feeding.call).ahead l.feeding.used
