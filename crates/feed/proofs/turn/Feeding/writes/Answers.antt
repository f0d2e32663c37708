use borrow.Author.Tests.{le-ltb}
use Rattle.tape.proofs.Layouts.{Fits, row-stored, rows_long}
use Rattle.feed.specs.Turns.{turn_by, taken_at}
use Rattle.feed.proofs.Fed as F
use Rattle.feed.proofs.turn.Feeding.writes.Goals as goal

pub returns-then-rows-n : goal.returns-then-rows-n
unfolding turn_by taken_at
returns-then-rows-n c = λ g s asked. rw (rows_long _, le-ltb _ _ c.if-rows-n.true)

pub returns : goal.returns
returns c = let a = c.args in
    let fits : Fits a.row = c.well_formed.1.1.0.1.1.1.0.1 in
    λ g s asked.
    rw (c.word.ensures, row-stored a.rows.now a.self.rows a.row fits)
    (F.row-turn s a.self g _ _ _ (rw (rows_long _) c.if-rows-n.false) c.went.ensures)
