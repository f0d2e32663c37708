-- Texts by their bytes, and what they come to, as one table of what the definitions give and what is due.
use Rattle.std.specs.Prelude.{ℕ, Result, Ok, Err, List, [], ◌∷◌, map, ◌≡◌, refl}
use Rattle.wordtext.specs.declared.book.Refusal.{Refusal}
use Rattle.wordtext.specs.declared.place.Place.{Place}
use Rattle.wordtext.specs.declared.token.Cause.{Cause}
use Rattle.wordtext.specs.declared.token.Cause.TheVariants.{NotANumber, TooLarge, TooMany}
use Rattle.wordtext.specs.Token.{ends_at, digit_of, with_digit, gone_on, closed, after, completed, began_at}
use Rattle.wordtext.specs.Text.{taken, scan, read_of, place_from, place_of, answer_of}

-- the answer, and the words before the text's end or the first thing that is none
pub record Told : Type 0 where
  pub answer : Result ℕ Refusal
  pub words : List ℕ

pub record Case : Type 0 where
  pub got : Told
  pub due : Told

abbrev told : Result ℕ Refusal → List ℕ → Told
told answer words = record { answer = answer; words = words }

abbrev at : ℕ → ℕ → Place
at line column = record { line = line; column = column }

abbrev refused : Cause → Place → Result ℕ Refusal
refused cause place = Err (record { cause = cause; place = place })

-- room, text, answer and words
abbrev of : ℕ → List ℕ → Result ℕ Refusal → List ℕ → Case
of room text answer words = record { got = told (answer_of room text) (read_of room text).words; due = told answer words }

abbrev pub table : List Case
table =
    (of 4_096 [] (Ok 0) [])
    ∷ (of 4_096 (55 ∷ []) (Ok 1) (7 ∷ []))
    ∷ (of 4_096 (52 ∷ 50 ∷ 57 ∷ 52 ∷ 57 ∷ 54 ∷ 55 ∷ 50 ∷ 57 ∷ 53 ∷ []) (Ok 1) (4_294_967_295 ∷ []))
    ∷ (of 4_096 (52 ∷ 50 ∷ 57 ∷ 52 ∷ 57 ∷ 54 ∷ 55 ∷ 50 ∷ 57 ∷ 54 ∷ []) (refused TooLarge (at 1 1)) [])
    ∷ (of 4_096 (48 ∷ 120 ∷ 70 ∷ 102 ∷ 44 ∷ 48 ∷ []) (Ok 2) (255 ∷ 0 ∷ []))
    ∷ (of 4_096 (48 ∷ 120 ∷ 49 ∷ 48 ∷ 48 ∷ 48 ∷ 48 ∷ 48 ∷ 48 ∷ 48 ∷ 48 ∷ []) (refused TooLarge (at 1 1)) [])
    ∷ (of 4_096 (48 ∷ 120 ∷ []) (refused NotANumber (at 1 1)) [])
    ∷ (of 4_096 (49 ∷ 50 ∷ 97 ∷ 98 ∷ []) (refused NotANumber (at 1 1)) [])
    ∷ (of 4_096 (49 ∷ 13 ∷ 10 ∷ 9 ∷ 50 ∷ 44 ∷ 51 ∷ 35 ∷ 52 ∷ 10 ∷ 53 ∷ []) (Ok 4) (1 ∷ 2 ∷ 3 ∷ 5 ∷ []))
    ∷ (of 4_096 (49 ∷ 10 ∷ 32 ∷ 32 ∷ 45 ∷ 49 ∷ []) (refused NotANumber (at 2 3)) (1 ∷ []))
    ∷ (of 1 (49 ∷ 32 ∷ 50 ∷ []) (refused TooMany (at 1 3)) (1 ∷ []))
    ∷ []

pub cases : map (λ (c : Case). c.got) table ≡ map (λ (c : Case). c.due) table
unfolding ends_at digit_of with_digit gone_on closed after completed began_at taken scan read_of place_from place_of answer_of
cases = refl
