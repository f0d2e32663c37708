use Rattle.step.proofs.ready.Bus.refuses.Goals as goal

pub returns : goal.returns
returns c = c.drops.ensures
