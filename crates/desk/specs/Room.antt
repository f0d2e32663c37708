-- The rows of room that a word names.
use Rattle.std.specs.Prelude.{ℕ, ◌+◌, ◌*◌, ◌-◌, ◌≤◌, Bool, true, cond, not, ◌&&◌, Option, None, Some, Result, Ok, Err, List, [], ◌∷◌, eqb, leb, ltb, length, ◌≡◌}
use Rattle.desk.specs.declared.room.ArgumentError.{ArgumentError}
use Rattle.desk.specs.declared.room.ArgumentError.TheVariants.{TooMany, NoRoom}

-- 0 to 9
abbrev pub is_digit : ℕ → Bool
is_digit b = leb 48 b && leb b 57

unfoldable pub are_digits : List ℕ → Bool
are_digits [] = true
are_digits (b ∷ bs) = is_digit b && are_digits bs

-- the number of a value's digits and these behind them
unfoldable pub value_from : ℕ → List ℕ → ℕ
value_from value [] = value
value_from value (b ∷ bs) = value_from (value * 10 + (b - 48)) bs

abbrev pub room_from : ℕ → List ℕ → Option ℕ
room_from value bs = cond (are_digits bs && leb (value_from value bs) 4_096) (Some (value_from value bs)) None

-- one to four decimal digits and nothing else, of a number that is at most 4,096. Zeros in front count as digits: 0040 is
-- 40, and 00040 is no room
unfoldable pub room_of : List ℕ → Option ℕ
room_of word = cond (not (eqb (length word) 0) && leb (length word) 4) (room_from 0 word) None

-- so many arguments, the program's name among them, and the first behind it: none asks for all 4,096 rows, one for what it
-- names, and two are too many
abbrev pub wish_by : Option ℕ → Result ℕ ArgumentError
wish_by (Some n) = Ok n
wish_by None = Err NoRoom

unfoldable pub wish_of : ℕ → List ℕ → Result ℕ ArgumentError
wish_of count word = cond (ltb count 2) (Ok 4_096) (cond (ltb 2 count) (Err TooMany) (wish_by (room_of word)))

-- the word is what was found in the first argument; what it is is in no contract
abbrev pub Wishes : ℕ → Result ℕ ArgumentError → Type 0
Wishes count r = (word : List ℕ) × (r ≡ wish_of count word)

abbrev pub granted_of : Result ℕ ArgumentError → Option ℕ
granted_of (Ok n) = Some n
granted_of (Err e) = None

-- a room is at most 4,096 rows
abbrev pub Fits : Option ℕ → Type 0
Fits (Some n) = n ≤ 4_096
Fits None = Unit {0}
