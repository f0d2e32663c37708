-- What a call begins with: its number, counted from 1, and its kind, a and b as the book has them.
use Rattle.std.specs.Prelude.{ℕ, List, ◌++◌}
use Rattle.text.specs.Digits.{decimal_of}
use Rattle.text.specs.Typed.{typed}
use Rattle.book.specs.declared.layout.Asked.{Asked}

abbrev pub begins_text : ℕ → Asked → List ℕ
begins_text number asked =
    decimal_of number
    ++ (typed " " ++ decimal_of asked.kind)
    ++ (typed " " ++ decimal_of asked.a)
    ++ (typed " " ++ decimal_of asked.b)
    ++ typed "\n"
