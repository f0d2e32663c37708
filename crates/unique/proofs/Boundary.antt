-- A line for each public function of `boundary`.
use Rattle.boundary.proofs as functions
use Rattle.unique.specs.Unique.{Unique}
use Rattle.unique.proofs.Determined.{determined}

boresacu_clock_setting : Unique functions.boresacu_clock_setting.Kinds.ps functions.boresacu_clock_setting.Kinds.r functions.boresacu_clock_setting.Reads.Learnt
boresacu_clock_setting = determined _ λ _ _ _ p. p

boresacu_block_count : Unique functions.boresacu_block_count.Kinds.ps functions.boresacu_block_count.Kinds.r functions.boresacu_block_count.Reads.Learnt
boresacu_block_count = determined _ λ _ _ _ p. p

boresacu_transfer_rate : Unique functions.boresacu_transfer_rate.Kinds.ps functions.boresacu_transfer_rate.Kinds.r functions.boresacu_transfer_rate.Reads.Learnt
boresacu_transfer_rate = determined _ λ _ _ _ p. p

boresacu_block_address : Unique functions.boresacu_block_address.Kinds.ps functions.boresacu_block_address.Kinds.r functions.boresacu_block_address.Reads.Learnt
boresacu_block_address = determined _ λ _ _ _ p. p
