-- Text is a list of bytes. A pen stands at a place of a lent buffer.
use Rattle.std.specs.Prelude.{ℕ, ◌+◌, ◌-◌, min, List, ◌++◌, ◌≡◌, length, take, drop}

-- the buffer with the text laid in from a place on, as far as it fits
unfoldable pub inked : ℕ → List ℕ → List ℕ → List ℕ
inked at text buffer = take at buffer ++ take (length buffer - at) text ++ drop (at + length text) buffer

-- where the pen stands after it
unfoldable pub next : ℕ → List ℕ → List ℕ → ℕ
next at text buffer = min (at + length text) (length buffer)

-- the pen laid a text in from a place on: the place that it gave, and the buffer that it left
pub record Laid (at : ℕ) (text before : List ℕ) (place : ℕ) (after : List ℕ) : Type 0 where
  pub placed : place ≡ next at text before
  pub laid : after ≡ inked at text before
