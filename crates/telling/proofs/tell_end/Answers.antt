use Rattle.telling.proofs.Lines.{still-fits, ends-leaf}
use Rattle.telling.proofs.tell_end.Goals as goal

pub tell_state-state-requires : goal.tell_state-state-requires
tell_state-state-requires g c = still-fits c.tell_called-line.ensures c.requires

pub handed-requires : goal.handed-requires
handed-requires g c = (still-fits c.tell_state-state.ensures (still-fits c.tell_called-line.ensures c.requires)).0

pub returns : goal.returns
returns g c = ends-leaf c.tell_called-line.ensures c.tell_state-state.ensures
