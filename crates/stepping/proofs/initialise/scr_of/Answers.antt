use Rattle.stepping.proofs.initialise.scr_of.Goals as goal

pub returns : goal.returns
returns c = c.scr_value.ensures
