-- A line for each public function of `desk` whose contract can say its result. What comes from outside the program is in no
-- contract, so of the others only the bounds are, and they are exceptions.
use Rattle.desk.proofs.room
use Rattle.unique.specs.Unique.{Unique}
use Rattle.unique.proofs.Determined.{determined}

room-read-room : Unique room.read_room.Kinds.ps room.read_room.Kinds.r room.read_room.Reads.Learnt
room-read-room = determined _ λ _ _ _ p. p
