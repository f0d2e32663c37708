-- Numbers as text.
use Rattle.std.specs.Prelude.{ℕ, zero, suc, ◌+◌, ◌/◌, ◌%◌, cond, List, [], ◌∷◌, ◌++◌, ltb}

-- in decimal: what is left after a division by ten, and then the last digit; a number below ten is its only digit. A number
-- is divided fewer times than it is large.
unfoldable pub decimal_in : ℕ → ℕ → List ℕ
decimal_in zero n = []
decimal_in (suc turns) n = cond (ltb n 10) [] (decimal_in turns (n / 10)) ++ ((48 + n % 10) ∷ [])

unfoldable pub decimal_of : ℕ → List ℕ
decimal_of n = decimal_in (suc n) n

-- a digit in hexadecimal, lower case: 0 to 9 from 48 on, a to f from 97 on
abbrev pub hex_digit : ℕ → ℕ
hex_digit n = cond (ltb n 10) (48 + n) (87 + n)

-- exactly so many digits, the lowest of the number
unfoldable pub hex_of : ℕ → ℕ → List ℕ
hex_of zero n = []
hex_of (suc digits) n = hex_of digits (n / 16) ++ (hex_digit (n % 16) ∷ [])
