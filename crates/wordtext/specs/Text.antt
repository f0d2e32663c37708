-- A text of words: the words that it holds, or the first thing in it that is none.
use Rattle.std.specs.Prelude.{ℕ, ◌+◌, ◌≤◌, cond, Option, None, Some, Result, Ok, Err, List, [], ◌∷◌, ◌++◌, ◌≡◌, eqb, ltb, length, take, drop}
use Rattle.types.specs.Words.{filled}
use Rattle.wordtext.specs.declared.book.Refusal.{Refusal}
use Rattle.wordtext.specs.declared.place.Place.{Place}
use Rattle.wordtext.specs.declared.scan.Scan.{Scan}
use Rattle.wordtext.specs.declared.token.Cause.{Cause}
use Rattle.wordtext.specs.declared.token.Cause.TheVariants.{TooMany}
use Rattle.wordtext.specs.declared.token.Token.{Token}
use Rattle.wordtext.specs.declared.token.Token.TheVariants as T
use Rattle.wordtext.specs.Token.{NEWLINE, after, completed, began_at, verdict_of}

-- how far a reading has come: what is in hand, where that began, and the words before it
pub record State : Type 0 where
  pub token : Token
  pub start : ℕ
  pub words : List ℕ

abbrev pub at_first : State
at_first = record { token = T.Nothing; start = 0; words = [] }

-- with the word that a byte gave, if it gave one: there is room for so many
unfoldable pub taken : ℕ → State → Option ℕ → State
taken room s None = s
taken room s (Some w) =
    cond (ltb (length s.words) room)
    (record { token = s.token; start = s.start; words = s.words ++ w ∷ [] })
    (record { token = T.Wrong TooMany; start = s.start; words = s.words })

-- one byte, which stands at `at`
abbrev pub step : ℕ → ℕ → State → ℕ → State
step room at s b =
    taken room
    (record { token = after s.token b; start = began_at s.token at s.start; words = s.words })
    (completed s.token b)

-- all bytes, of which the first stands at `at`; the text's end ends its last line
unfoldable pub scan : ℕ → ℕ → State → List ℕ → State
scan room at s [] = step room at s NEWLINE
scan room at s (b ∷ bs) = scan room (at + 1) (step room at s b) bs

unfoldable pub read_of : ℕ → List ℕ → State
read_of room text = scan room 0 at_first text

-- lines and columns are counted from 1
abbrev pub moved : Place → ℕ → Place
moved p b = cond (eqb b NEWLINE) (record { line = p.line + 1; column = 1 }) (record { line = p.line; column = p.column + 1 })

unfoldable pub place_from : Place → List ℕ → Place
place_from p [] = p
place_from p (b ∷ bs) = place_from (moved p b) bs

-- the place of the byte at `at`
unfoldable pub place_of : List ℕ → ℕ → Place
place_of text at = place_from (record { line = 1; column = 1 }) (take at text)

-- what a text comes to: so many words, or the first thing that is none, with its place
abbrev pub answer_by : Result (Unit {0}) Cause → Place → ℕ → Result ℕ Refusal
answer_by (Ok right) place count = Ok count
answer_by (Err cause) place count = Err (record { cause = cause; place = place })

abbrev pub answer_at : State → List ℕ → Result ℕ Refusal
answer_at s text = answer_by (verdict_of s.token) (place_of text s.start) (length s.words)

unfoldable pub answer_of : ℕ → List ℕ → Result ℕ Refusal
answer_of room text = answer_at (read_of room text) text

-- words laid over the start of a list
abbrev pub laid : List ℕ → List ℕ → List ℕ
laid words list = words ++ drop (length words) list

-- a book's words as bytes, laid over the start of a list; where the text is refused the list stays as it is
abbrev pub book_over : Result ℕ Refusal → List ℕ → List ℕ → List ℕ
book_over (Ok count) words bytes = filled words bytes
book_over (Err refusal) words bytes = bytes

-- how many words a reading gave
abbrev pub count_of : Result ℕ Refusal → ℕ
count_of (Ok count) = count
count_of (Err refusal) = 0

-- what the code holds: the words stand at the start of a list
abbrev pub state_of : Scan → List ℕ → State
state_of s list = record { token = s.token; start = s.start; words = take s.count list }

-- r and its list hold this state; past the words the list is as it was
pub record Holds (state : State) (was : List ℕ) (r : Scan) (list : List ℕ) : Type 0 where
  pub same : state_of r list ≡ state
  pub rest : drop r.count list ≡ drop r.count was
  pub size : length list ≡ length was
  pub fits : r.count ≤ length was
