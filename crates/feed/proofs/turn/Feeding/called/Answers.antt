use Rattle.feed.specs.Turns.{way_of}
use Rattle.feed.proofs.Fed as F
use Rattle.feed.proofs.turn.Feeding.called.Goals as goal

pub returns-in-Some : goal.returns-in-Some
returns-in-Some c = λ g. F.over-called (way_of g c.args.self) _ (c.closed-closed.ensures g) _ c.in-Some.is

pub returns-in-None : goal.returns-in-None
returns-in-None c = λ g. F.full-called (way_of g c.args.self) _ (c.closed-closed.ensures g) c.in-None.is
