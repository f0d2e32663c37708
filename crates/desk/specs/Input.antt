-- What a reading of a whole buffer comes to: how many bytes came before the input's end, or why they did not come whole.
use Rattle.std.specs.Prelude.{ℕ, zero, suc, ◌<◌, ◌≤◌, Option, None, Some, Result, Ok, Err, List, length, take}
use Rattle.std.specs.Io.KnownBytes.{Consumes, IsAtEnd}
use Rattle.std.specs.declared.io.Error.{Error}
use Rattle.desk.specs.declared.input.InputError.{InputError}
use Rattle.desk.specs.declared.input.InputError.TheVariants.{Full, Failed}

-- what a reading gave: so many bytes, none at the end of the input, or that it failed
abbrev pub came : Result ℕ Error → Result (Option ℕ) InputError
came (Ok zero) = Ok None
came (Ok (suc n)) = Ok (Some (suc n))
came (Err why) = Err (Failed why)

-- the input ended before the buffer was filled; and nothing is read into no room, so that nothing fails
abbrev pub Within : Result ℕ InputError → ℕ → Type 0
Within (Ok n) room = n < room
Within (Err Full) room = Unit {0}
Within (Err (Failed why)) room = 0 < room

-- of a reader whose bytes are known: those that came stand at the buffer's start in their order, none is left out, and no
-- more are taken from it. All of them came where it is said so; a buffer that is full holds as many as it has room for; and
-- where a reading failed it is not full
abbrev pub Reads : Option (List ℕ) → Option (List ℕ) → Result ℕ InputError → List ℕ → Type 0
Reads old new (Ok n) buffer = Consumes old new (take n buffer) × IsAtEnd new
Reads old new (Err Full) buffer = Consumes old new buffer
Reads old new (Err (Failed why)) buffer = (n : ℕ) × (n < length buffer) × Consumes old new (take n buffer)

-- the same, where a buffer that is full is handed on like one that is not
abbrev pub Begins : {E : Type 0} → Option (List ℕ) → Option (List ℕ) → Result ℕ E → List ℕ → Type 0
Begins old new (Ok n) buffer = (n ≤ length buffer) × Consumes old new (take n buffer) × (n < length buffer → IsAtEnd new)
Begins old new (Err why) buffer = 0 < length buffer
