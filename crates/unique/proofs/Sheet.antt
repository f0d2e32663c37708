-- A line for the public function of `sheet` that writes nothing. Whether text could be written is in no contract, so of the
-- others what tells it is open.
use Rattle.sheet.proofs.sheet
use Rattle.unique.specs.Unique.{Unique}
use Rattle.unique.proofs.Determined.{determined}

sheet_sheet_filled : Unique sheet.Sheet.filled.Kinds.ps sheet.Sheet.filled.Kinds.r sheet.Sheet.filled.Reads.Learnt
sheet_sheet_filled = determined _ λ _ _ _ p. p
