-- What bookwords says of a text that it refuses: where, and what is wrong.
use Rattle.std.specs.Prelude.{ℕ, List, ◌++◌}
use Rattle.text.specs.Digits.{decimal_of}
use Rattle.text.specs.Typed.{typed}
use Rattle.wordtext.specs.declared.book.Refusal.{Refusal}
use Rattle.wordtext.specs.declared.token.Cause.{Cause}
use Rattle.wordtext.specs.declared.token.Cause.TheVariants.{NotANumber, TooLarge, TooMany}

abbrev pub cause_text : Cause → List ℕ
cause_text NotANumber = typed "not a number, in decimal or with 0x in hexadecimal"
cause_text TooLarge = typed "too large for 32 bits"
cause_text TooMany = typed "one word too many, a book holds at most 4096"

abbrev pub refusal_text : Refusal → List ℕ
refusal_text refusal =
    typed "bookwords: line "
    ++ decimal_of refusal.place.line
    ++ typed ", column "
    ++ decimal_of refusal.place.column
    ++ typed ": "
    ++ cause_text refusal.cause
    ++ typed "\n"
