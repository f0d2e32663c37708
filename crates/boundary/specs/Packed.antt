-- An answer as one 64-bit number, for C: the answer's number (document 01) in the top byte, its value in the seven below:
-- where it was refused the field at 13, and 0 elsewhere. proofs/Decoded.antt shows that both can be read off again.
use Rattle.std.specs.Prelude.{ℕ, ◌+◌, ◌*◌, ◌^◌, cond, eqb, ltb, Result, Ok, Err}
use Rattle.types.specs.declared.register.BlockCount.{BlockCount}
use Rattle.types.specs.declared.card.CardCapacity.{CardCapacity}
use Rattle.types.specs.declared.card.CardCapacity.TheVariants.{SDSC, SDHC}
use Rattle.types.specs.declared.clock.Clock.{Clock}
use Rattle.types.specs.declared.error.Error.{Error}
use Rattle.types.specs.declared.error.Error.TheVariants.{UnsupportedCardType}
use Rattle.types.specs.declared.error.Field.TheVariants.{RateReservedBit}
use Rattle.types.specs.Answer.{flag, error_told, carried}
use Rattle.types.specs.Leaf.{rate_of}

abbrev pub packed : ℕ → ℕ → ℕ
packed number value = number * 2 ^ 56 + value

-- a refusal, with what it carries: of the errors that come up here only UnsupportedCardType carries anything, its field
abbrev pub refused_word : Error → ℕ
refused_word e = packed (error_told e).number (carried (error_told e))

-- bypass in bit 40, the divisor field in bits 39:32, the frequency in bits 31:0
abbrev pub clock_value : Clock → ℕ
clock_value c = flag c.bypass * 2 ^ 40 + (c.divisor * 2 ^ 32 + c.frequency.0)

unfoldable pub clock_word : Result Clock Error → ℕ
clock_word (Ok c) = packed 0 (clock_value c)
clock_word (Err e) = refused_word e

-- blocks of 512 bytes
unfoldable pub count_word : Result BlockCount Error → ℕ
count_word (Ok n) = packed 0 n.0
count_word (Err e) = refused_word e

-- bits a second
unfoldable pub rate_word : Result ℕ Error → ℕ
rate_word (Ok n) = packed 0 n
rate_word (Err e) = refused_word e

-- what is no byte is refused like a byte with its reserved bit set
unfoldable pub rate_at : ℕ → Result ℕ Error
rate_at encoded = cond (ltb 255 encoded) (Err (UnsupportedCardType RateReservedBit)) (rate_of encoded)

-- the argument of the read command
unfoldable pub address_word : Result ℕ Error → ℕ
address_word (Ok a) = packed 0 a
address_word (Err e) = refused_word e

-- 0 is standard capacity, anything else is high capacity
abbrev pub class_of : ℕ → CardCapacity
class_of n = cond (eqb n 0) SDSC SDHC
