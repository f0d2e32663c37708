-- A word of a text, byte by byte: decimal or 0x-hexadecimal words, separated by white space or commas; `#` to the end of
-- the line is a comment.
use Rattle.std.specs.Prelude.{ℕ, ◌+◌, ◌*◌, ◌-◌, ◌^◌, Bool, cond, ◌||◌, ◌&&◌, Option, None, Some, Result, Ok, Err, eqb, ltb, leb}
use Rattle.wordtext.specs.declared.token.Cause.{Cause}
use Rattle.wordtext.specs.declared.token.Cause.TheVariants.{NotANumber, TooLarge}
use Rattle.wordtext.specs.declared.token.Token.{Token}
use Rattle.wordtext.specs.declared.token.Token.TheVariants as T

-- bytes by their sign
abbrev pub NEWLINE : ℕ
NEWLINE = 10

abbrev pub COMMA : ℕ
COMMA = 44

abbrev pub HASH : ℕ
HASH = 35

-- a word is below this
abbrev pub LIMIT : ℕ
LIMIT = 2 ^ 32

abbrev pub between : ℕ → ℕ → ℕ → Bool
between low high b = leb low b && leb b high

-- white space: tab, line feed, vertical tab, form feed, carriage return; space
abbrev pub is_white : ℕ → Bool
is_white b = between 9 13 b || eqb b 32

-- a word ends before white space, a comma or a comment
unfoldable pub ends_at : ℕ → Bool
ends_at b = is_white b || eqb b COMMA || eqb b HASH

-- the value of a digit, 0 to 9, A to F or a to f
unfoldable pub digit_of : ℕ → Option ℕ
digit_of b = cond (between 48 57 b) (Some (b - 48)) (cond (between 65 70 b) (Some (b - 65 + 10)) (cond (between 97 102 b) (Some (b - 97 + 10)) None))

-- a number in this base, with one digit more: it has to be one of the base, and the number below the limit
abbrev pub grown : ℕ → ℕ → Option ℕ → Result ℕ Cause
grown base value None = Err NotANumber
grown base value (Some digit) =
    cond (leb base digit) (Err NotANumber)
    (cond (ltb (value * base + digit) LIMIT) (Ok (value * base + digit)) (Err TooLarge))

unfoldable pub with_digit : ℕ → ℕ → ℕ → Result ℕ Cause
with_digit base value b = grown base value (digit_of b)

abbrev pub told : (ℕ → Token) → Result ℕ Cause → Token
told kind (Ok n) = kind n
told kind (Err cause) = T.Wrong cause

abbrev pub decimal_of : ℕ → ℕ → Token
decimal_of value b = told T.Decimal (with_digit 10 value b)

abbrev pub hexadecimal_of : ℕ → ℕ → Token
hexadecimal_of value b = told T.Hexadecimal (with_digit 16 value b)

-- what is in hand, with a byte that does not end it: `0` and then `x` starts a hexadecimal
unfoldable pub gone_on : Token → ℕ → Token
gone_on T.Nothing b = cond (eqb b 48) T.Zero (decimal_of 0 b)
gone_on T.Zero b = cond (eqb b 120) T.Prefix (decimal_of 0 b)
gone_on T.Prefix b = hexadecimal_of 0 b
gone_on (T.Decimal value) b = decimal_of value b
gone_on (T.Hexadecimal value) b = hexadecimal_of value b
gone_on T.Comment b = T.Comment
gone_on (T.Wrong cause) b = T.Wrong cause

-- after a word: a comment, or nothing in hand
abbrev pub opened : ℕ → Token
opened b = cond (eqb b HASH) T.Comment T.Nothing

-- what a byte that ends a word leaves in hand. A comment ends with its line; `0x` alone is no number; what is wrong
-- stays so
unfoldable pub closed : Token → ℕ → Token
closed T.Comment b = cond (eqb b NEWLINE) T.Nothing T.Comment
closed T.Prefix b = T.Wrong NotANumber
closed (T.Wrong cause) b = T.Wrong cause
closed T.Nothing b = opened b
closed T.Zero b = opened b
closed (T.Decimal value) b = opened b
closed (T.Hexadecimal value) b = opened b

-- what is in hand after a byte
unfoldable pub after : Token → ℕ → Token
after t b = cond (ends_at b) (closed t b) (gone_on t b)

-- the word that is in hand
abbrev pub word_of : Token → Option ℕ
word_of T.Zero = Some 0
word_of (T.Decimal value) = Some value
word_of (T.Hexadecimal value) = Some value
word_of T.Nothing = None
word_of T.Comment = None
word_of T.Prefix = None
word_of (T.Wrong cause) = None

-- the word that a byte completes
unfoldable pub completed : Token → ℕ → Option ℕ
completed t b = cond (ends_at b) (word_of t) None

-- where what is in hand began: here, where nothing was
unfoldable pub began_at : Token → ℕ → ℕ → ℕ
began_at T.Nothing at start = at
began_at T.Comment at start = start
began_at T.Zero at start = start
began_at T.Prefix at start = start
began_at (T.Decimal value) at start = start
began_at (T.Hexadecimal value) at start = start
began_at (T.Wrong cause) at start = start

-- whether all was right so far
abbrev pub verdict_of : Token → Result (Unit {0}) Cause
verdict_of (T.Wrong cause) = Err cause
verdict_of T.Nothing = Ok tt
verdict_of T.Comment = Ok tt
verdict_of T.Zero = Ok tt
verdict_of T.Prefix = Ok tt
verdict_of (T.Decimal value) = Ok tt
verdict_of (T.Hexadecimal value) = Ok tt
