-- Words by their bytes, and the rooms that they name.
use Rattle.std.specs.Prelude.{ℕ, Option, None, Some, List, [], ◌∷◌, map, ◌≡◌, refl}
use Rattle.desk.specs.Room.{are_digits, value_from, room_of}

pub record Case : Type 0 where
  pub word : List ℕ
  pub due : Option ℕ

abbrev of : List ℕ → Option ℕ → Case
of word due = record { word = word; due = due }

-- none, 0, 40, 0040, 00040, 4096, 4097, 9999, a space behind 4, -1, 0x4
abbrev pub table : List Case
table =
    of [] None
    ∷ of (48 ∷ []) (Some 0)
    ∷ of (52 ∷ 48 ∷ []) (Some 40)
    ∷ of (48 ∷ 48 ∷ 52 ∷ 48 ∷ []) (Some 40)
    ∷ of (48 ∷ 48 ∷ 48 ∷ 52 ∷ 48 ∷ []) None
    ∷ of (52 ∷ 48 ∷ 57 ∷ 54 ∷ []) (Some 4_096)
    ∷ of (52 ∷ 48 ∷ 57 ∷ 55 ∷ []) None
    ∷ of (57 ∷ 57 ∷ 57 ∷ 57 ∷ []) None
    ∷ of (52 ∷ 32 ∷ []) None
    ∷ of (45 ∷ 49 ∷ []) None
    ∷ of (48 ∷ 120 ∷ 52 ∷ []) None
    ∷ []

pub cases : map (λ (c : Case). room_of c.word) table ≡ map (λ (c : Case). c.due) table
unfolding are_digits value_from room_of
cases = refl
