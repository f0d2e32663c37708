-- The bits of a number.
use Rattle.std.specs.Prelude.{ℕ, ◌+◌, ◌-◌, ◌/◌, ◌%◌, ◌^◌, Bool, eqb}
use Rattle.std.specs.Int.Bits.{bit_and}

-- bits hi:lo of a number
abbrev pub bits : ℕ → ℕ → ℕ → ℕ
bits n hi lo = n / 2 ^ lo % 2 ^ (hi + 1 - lo)

-- bit k of a number is set
abbrev pub bit : ℕ → ℕ → Bool
bit n k = eqb (bits n k k) 1

-- a word has no bit of the mask (proofs/Masks.antt: for every place k, where the mask has bit k the word has not)
abbrev pub clear : ℕ → ℕ → Bool
clear mask word = eqb (bit_and word mask) 0
