use Rattle.init.specs.Initialise.{card_version}
use Rattle.tape.proofs.Took.{handles}
use Rattle.init.proofs.begin.card_version.Goals as goal

pub returns : goal.returns
unfolding card_version
returns c = handles _ _ c.send.ensures (c.judge_version.ensures _ _ _)
