use Rattle.std.proofs.Common.{◌≡◌, ◌≤◌, drop}
use Rattle.desk.specs.Room.{room_from}
use Rattle.desk.proofs.room.read_room.Given as goal

abbrev pub invariant-loop-b : goal.invariant-loop-b
invariant-loop-b l = (l.rows ≤ 4_096) × (room_from l.rows (drop l.b-index l.word) ≡ room_from 0 l.word)
