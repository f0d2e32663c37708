-- A line for each public function of `report`.
use Rattle.report.proofs.blocks
use Rattle.report.proofs.record
use Rattle.report.proofs.rows
use Rattle.report.proofs.state
use Rattle.report.proofs.status
use Rattle.unique.specs.Unique.{Unique}
use Rattle.unique.proofs.Determined.{determined}

blocks_put_blocks : Unique blocks.put_blocks.Kinds.ps blocks.put_blocks.Kinds.r blocks.put_blocks.Reads.Learnt
blocks_put_blocks = determined _ λ _ _ _ p i. (p i, tt)

record_put_record : Unique record.put_record.Kinds.ps record.put_record.Kinds.r record.put_record.Reads.Learnt
record_put_record = determined _ λ _ _ _ p i. (p i, tt)

rows_put_row : Unique rows.put_row.Kinds.ps rows.put_row.Kinds.r rows.put_row.Reads.Learnt
rows_put_row = determined _ λ _ _ _ p i. (p i, tt)

rows_put_rows : Unique rows.put_rows.Kinds.ps rows.put_rows.Kinds.r rows.put_rows.Reads.Learnt
rows_put_rows = determined _ λ _ _ _ p i. (p i, tt)

rows_put_carried : Unique rows.put_carried.Kinds.ps rows.put_carried.Kinds.r rows.put_carried.Reads.Learnt
rows_put_carried = determined _ λ _ _ _ p i. (p i, tt)

state_put_state : Unique state.put_state.Kinds.ps state.put_state.Kinds.r state.put_state.Reads.Learnt
state_put_state = determined _ λ _ _ _ p i. (p i, tt)

status_put_words : Unique status.put_words.Kinds.ps status.put_words.Kinds.r status.put_words.Reads.Learnt
status_put_words = determined _ λ _ _ _ p i. (p i, tt)

status_put_status : Unique status.put_status.Kinds.ps status.put_status.Kinds.r status.put_status.Reads.Learnt
status_put_status = determined _ λ _ _ _ p i. (p i, tt)
