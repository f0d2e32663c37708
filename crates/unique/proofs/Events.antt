-- A line for each public function of `events`.
use Rattle.events.proofs.event
use Rattle.events.proofs.flags
use Rattle.events.proofs.reading
use Rattle.events.proofs.row
use Rattle.events.proofs.said
use Rattle.unique.specs.Unique.{Unique}
use Rattle.unique.proofs.Determined.{determined}

event_put_event : Unique event.put_event.Kinds.ps event.put_event.Kinds.r event.put_event.Reads.Learnt
event_put_event = determined _ λ _ _ _ p i. (p i, tt)

flags_put_flags : Unique flags.put_flags.Kinds.ps flags.put_flags.Kinds.r flags.put_flags.Reads.Learnt
flags_put_flags = determined _ λ _ _ _ p i. (p i, tt)

reading_put_kind : Unique reading.put_kind.Kinds.ps reading.put_kind.Kinds.r reading.put_kind.Reads.Learnt
reading_put_kind = determined _ λ _ _ _ p i. (p i, tt)

reading_put_meaning : Unique reading.put_meaning.Kinds.ps reading.put_meaning.Kinds.r reading.put_meaning.Reads.Learnt
reading_put_meaning = determined _ λ _ _ _ p i. (p i, tt)

row_put_meaning : Unique row.put_meaning.Kinds.ps row.put_meaning.Kinds.r row.put_meaning.Reads.Learnt
row_put_meaning = determined _ λ _ _ _ p i. (p i, tt)

said_put_said : Unique said.put_said.Kinds.ps said.put_said.Kinds.r said.put_said.Reads.Learnt
said_put_said = determined _ λ _ _ _ p i. (p i, tt)

said_put_counted : Unique said.put_counted.Kinds.ps said.put_counted.Kinds.r said.put_counted.Reads.Learnt
said_put_counted = determined _ λ _ _ _ p i. (p i, tt)
