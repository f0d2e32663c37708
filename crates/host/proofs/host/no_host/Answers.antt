use Rattle.host.proofs.host.no_host.Goals as goal

pub returns : goal.returns
returns c = rw (c.fresh_line.ensures, c.no_card.ensures)
