use Rattle.init.proofs.speed.took.Goals as goal

pub returns : goal.returns
returns c = rw (← c.status_bytes-bytes.ensures)
