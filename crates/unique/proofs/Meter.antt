-- A line for each public function of `meter`.
use Rattle.meter.proofs as functions
use Rattle.unique.specs.Unique.{Unique}
use Rattle.unique.proofs.Determined.{determined}
use Rattle.unique.proofs.Steps.{by-words}

boresacu_meter_calls : Unique functions.boresacu_meter_calls.Kinds.ps functions.boresacu_meter_calls.Kinds.r functions.boresacu_meter_calls.Reads.Learnt
boresacu_meter_calls = determined _ λ _ _ _ p. by-words p.1.0 (λ i. (p.1.1 i, p.0 i))

boresacu_meter_steps : Unique functions.boresacu_meter_steps.Kinds.ps functions.boresacu_meter_steps.Kinds.r functions.boresacu_meter_steps.Reads.Learnt
boresacu_meter_steps = determined _ λ _ _ _ p. by-words p.1.0 (λ i. (p.1.1 i, p.0 i))

boresacu_meter_book : Unique functions.boresacu_meter_book.Kinds.ps functions.boresacu_meter_book.Kinds.r functions.boresacu_meter_book.Reads.Learnt
boresacu_meter_book = determined _ λ _ _ _ p i. (p.laid i, p.placed i)
