use Rattle.underway.proofs.begin.unknown.Goals as goal

pub returns : goal.returns
returns c = tt
