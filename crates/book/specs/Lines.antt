-- Document 01, 'The bench book and its program', with P4 and P8 of document 02: the lines that the program prints.
use Rattle.std.specs.Prelude.{ℕ, cond, ◌&&◌, List, [], ◌++◌, eqb}
use Rattle.text.specs.Digits.{decimal_of}
use Rattle.text.specs.Typed.{typed}
use Rattle.types.specs.declared.error.Answer.{Answer}
use Rattle.types.specs.declared.register.Protection.{Protection}
use Rattle.types.specs.Answer.{answer_told, carried}
use Rattle.types.specs.Leaf.{protect_number}

abbrev pub host_line : ℕ → List ℕ
host_line answer = typed "host answer " ++ decimal_of answer ++ typed "\n"

-- the number of a call's answer, and at 13 the field that made the card unsupported
abbrev pub field_text : Answer → List ℕ
field_text answer = cond (eqb (answer_told answer).number 13) (typed " field " ++ decimal_of (carried (answer_told answer))) []

abbrev pub answer_text : Answer → List ℕ
answer_text answer = (typed " answer " ++ decimal_of (answer_told answer).number) ++ field_text answer

-- at the end of an accepted initialisation's line (kind 1), how the card is protected against writing; of no other line
abbrev pub protect_text : ℕ → Answer → Protection → List ℕ
protect_text kind answer protection =
    cond (eqb kind 1 && eqb (answer_told answer).number 0) (typed " protect " ++ decimal_of (protect_number protection)) []

-- calls are numbered from 1; of this kind, answered so, with so many words used and rows written, and a record protected so
abbrev pub call_line : ℕ → ℕ → Answer → ℕ → ℕ → Protection → List ℕ
call_line call kind answer words rows protection =
    decimal_of call
    ++ answer_text answer
    ++ (typed " words " ++ decimal_of words)
    ++ (typed " rows " ++ decimal_of rows)
    ++ protect_text kind answer protection
    ++ typed "\n"
