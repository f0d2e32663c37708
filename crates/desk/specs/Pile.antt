-- A pile: what is read of it until its next book is there.
use Rattle.std.specs.Prelude.{ℕ, zero, suc, ◌+◌, ◌*◌, ◌-◌, ◌≤◌, ◌<◌, min, Option, None, Some, Result, Ok, Err, List, [], ◌++◌, ◌≡◌, get_or, length, take}
use Rattle.std.specs.Io.KnownBytes.{Consumes, IsAtEnd}
use Rattle.desk.specs.declared.input.InputError.{InputError}
use Rattle.desk.specs.declared.input.InputError.TheVariants as I
use Rattle.desk.specs.declared.input.InputError.TheVariants.{Full}
use Rattle.desk.specs.declared.pile.PileError.{PileError}
use Rattle.desk.specs.declared.pile.PileError.TheVariants.{Cut, Failed}

-- the number of four bytes, the lowest first
abbrev pub word4 : ℕ → ℕ → ℕ → ℕ → ℕ
word4 a b c d = a + b * 256 + c * 65536 + d * 16777216

abbrev pub little_of : List ℕ → ℕ
little_of bytes = word4 (get_or bytes 0 0) (get_or bytes 1 0) (get_or bytes 2 0) (get_or bytes 3 0)

-- so many bytes were to be read: an input that ends before is cut short
abbrev pub part_of : Result ℕ InputError → Result (Unit {0}) PileError
part_of (Err Full) = Ok tt
part_of (Ok n) = Err Cut
part_of (Err (I.Failed why)) = Err (Failed why)

-- the four bytes of a length were to be read. An input that ends before the first of them is the pile's end, and one that
-- ends among them is cut short
abbrev pub announced_of : Result ℕ InputError → ℕ → Result (Option ℕ) PileError
announced_of (Ok zero) size = Ok None
announced_of (Ok (suc n)) size = Err Cut
announced_of (Err Full) size = Ok (Some size)
announced_of (Err (I.Failed why)) size = Err (Failed why)

-- What a reader gives is known where its bytes are; what it has left is told as `old` before and `new` after.

-- so many are left of so many that are to be read
abbrev pub Past : Option (List ℕ) → Option (List ℕ) → ℕ → ℕ → Type 0
Past old new left count = (bs : List ℕ) × (length bs + left ≡ count) × Consumes old new bs

-- so many bytes were to be read, and these were: all of them; fewer, and the input ended there; or fewer, where a reading
-- failed. Of none nothing is missing
abbrev pub Passes : Option (List ℕ) → Option (List ℕ) → Result (Unit {0}) PileError → ℕ → Type 0
Passes old new (Ok done) count = (bs : List ℕ) × (length bs ≡ count) × Consumes old new bs
Passes old new (Err Cut) count = (bs : List ℕ) × (length bs < count) × Consumes old new bs × IsAtEnd new
Passes old new (Err (Failed why)) count = (bs : List ℕ) × (length bs < count) × Consumes old new bs

-- the four bytes of a length were to be read. An input that ends before the first of them is the pile's end, and one that
-- ends among them is cut short
abbrev pub Lengths : Option (List ℕ) → Option (List ℕ) → Result (Option ℕ) PileError → Type 0
Lengths old new (Ok None) = Consumes old new [] × IsAtEnd new
Lengths old new (Ok (Some n)) = (bs : List ℕ) × (length bs ≡ 4) × (n ≡ little_of bs) × Consumes old new bs
Lengths old new (Err Cut) = (bs : List ℕ) × (0 < length bs) × (length bs < 4) × Consumes old new bs × IsAtEnd new
Lengths old new (Err (Failed why)) = (bs : List ℕ) × (length bs < 4) × Consumes old new bs

-- the next book: its length comes first; as many of its bytes as the buffer has room for are read into it, and the others
-- are read past. An input that ends before the length is the pile's end; one that ends in the length or the book is cut
-- short. Of a length of which not all bytes came those that are missing count as 0
abbrev pub Books : Option (List ℕ) → Option (List ℕ) → Result (Option ℕ) PileError → List ℕ → Type 0
Books old new (Ok None) buffer = Consumes old new [] × IsAtEnd new
Books old new (Ok (Some n)) buffer =
    (head : List ℕ)
    × (behind : List ℕ)
    × (length head ≡ 4)
    × (n ≡ min (little_of head) (length buffer))
    × (length behind ≡ little_of head - n)
    × Consumes old new (head ++ (take n buffer ++ behind))
Books old new (Err Cut) buffer = (bs : List ℕ) × (0 < length bs) × (length bs < 4 + little_of bs) × Consumes old new bs × IsAtEnd new
Books old new (Err (Failed why)) buffer = (bs : List ℕ) × (length bs < 4 + little_of bs) × Consumes old new bs

-- the book's bytes lie within the buffer
abbrev pub Holds : Result (Option ℕ) PileError → ℕ → Type 0
Holds (Ok (Some n)) room = n ≤ room
Holds (Ok None) room = Unit {0}
Holds (Err e) room = Unit {0}
