-- Where a line goes on a sheet, and what the sheet holds then.
use Rattle.std.specs.Prelude.{ℕ, ◌-◌, ◌≤◌, IsOk, cond, List, ◌++◌, ◌≡◌, leb, length, take}
use Rattle.text.specs.Ink.{Laid}
use Rattle.sheet.specs.declared.sheet.Sheet.{Sheet}

-- a sheet in its buffer, which has room for a line of 512 bytes
abbrev pub Fits : Sheet → List ℕ → Type 0
Fits sheet out = (sheet.at ≤ length out) × (512 ≤ length out)

-- behind what is there, where 512 bytes are left of the buffer's; else at its start, once what is there was written
unfoldable pub place_for : ℕ → ℕ → ℕ
place_for size at = cond (leb 512 (size - at)) at 0

-- a line that was laid in there: one of at most 512 bytes stands whole behind what is still to be written; and what could not
-- be written before stays so
pub record Tells (line : List ℕ) (sheet : Sheet) (before : List ℕ) (r : Sheet) (after : List ℕ) : Type 0 where
  pub laid : Laid (place_for (length before) sheet.at) line before r.at after
  pub whole : length line ≤ 512 → take r.at after ≡ take (place_for (length before) sheet.at) before ++ line
  pub kept : IsOk r.written → IsOk sheet.written
