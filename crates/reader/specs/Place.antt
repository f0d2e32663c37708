-- What a reader is, and what it finds at its place.
use Rattle.std.specs.Prelude.{ℕ, ◌-◌, cond, List, ltb, length, get_or, Option, Some, None}
use Rattle.std.specs.Borrow.{Bor}
use Rattle.reader.specs.declared.Reader.{Reader}

-- the reader of this lent script at this place
abbrev pub reader_at : Bor (List ℕ) → ℕ → Reader
reader_at script place = record { script = script; place = place }

-- the word at this place of a script, or its end
unfoldable pub word_at : List ℕ → ℕ → Option ℕ
word_at script place = cond (ltb place (length script)) (Some (get_or script place 0)) None

-- how many words are left from this place on: none past the end, where the difference is 0
abbrev pub left_at : List ℕ → ℕ → ℕ
left_at script place = length script - place
