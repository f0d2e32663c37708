-- What cardpile says of a pile: a line in front of each book, and one where the pile is cut short.
use Rattle.std.specs.Prelude.{ℕ, List, [], ◌++◌}
use Rattle.text.specs.Digits.{decimal_of}
use Rattle.text.specs.Typed.{typed}
use Rattle.desk.specs.declared.pile.PileError.{PileError}
use Rattle.desk.specs.declared.pile.PileError.TheVariants.{Cut, Failed}

-- books are counted from 1
abbrev pub book_line : ℕ → List ℕ
book_line k = typed "book " ++ decimal_of k ++ typed "\n"

-- where a reading failed, the system's text is said in its place
unfoldable pub end_text : PileError → List ℕ
end_text Cut = typed "cardpile: the pile is cut short\n"
end_text (Failed why) = []
