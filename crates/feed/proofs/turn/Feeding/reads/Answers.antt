use Rattle.feed.proofs.Fed as F
use Rattle.feed.proofs.turn.Feeding.reads.Goals as goal

pub returns-then-script-used : goal.returns-then-script-used
returns-then-script-used c = λ g l asked. F.missed-turn _ c.args.self g l _ _ c.if-script-used.true c.missed.ensures

pub returns : goal.returns
returns c = λ g l asked. F.read-turn _ c.args.self g l _ _ _ c.if-script-used.false asked c.fed.ensures c.lies.ensures
