use Rattle.desk.proofs.Rooms.{granted, granted_fits}
use Rattle.desk.proofs.room.asked.Goals as goal

pub returns : goal.returns
returns g c = rw (c.ok.ensures.value, ← c.inspect_err.ensures.value, granted) (granted_fits _ _ c.argument.ensures)
