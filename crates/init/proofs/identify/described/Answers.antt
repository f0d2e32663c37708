use Rattle.init.proofs.identify.described.Goals as goal

pub returns : goal.returns
returns c = rw (c.of.ensures, c.response_value.ensures, c.class.ensures, c.response_value-told.ensures)
