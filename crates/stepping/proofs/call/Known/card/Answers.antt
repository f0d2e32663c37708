use Rattle.stepping.proofs.call.Known.card.Goals as goal

pub returns : goal.returns
returns c = rw (c.with_scr.ensures, c.described-card.ensures, c.list.ensures, c.list-2.ensures)
