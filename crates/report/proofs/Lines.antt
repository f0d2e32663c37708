-- The texts of no row, word, byte or block, and of one more.
use Prim.Native.Nat.{ℕ, zero, suc, ◌+◌, ◌-◌, ◌≤◌}
use mathlib.Core.List.{List, [], ◌++◌}
use mathlib.Core.Path.{◌≡◌, refl}
use native.Mathlib.Numerals.{add-one}
use native.Mathlib.Omega.{arith}
use lib.ListN.{get_or}
use Rattle.text.specs.Digits.{hex_of}
use Rattle.text.specs.Typed.{typed}
use Rattle.tape.specs.declared.rows.Row.{Row}
use Rattle.tape.specs.Layout.{row_of}
use Rattle.report.specs.Report.{row_line, rows_text, words_text, bytes_text, block_line, blocks_text}

pub rows_none : (rows : List Row) → rows_text 0 rows ≡ []
unfolding rows_text
rows_none rows = refl

pub row_more : (i : ℕ) (rows : List Row) → rows_text (i + 1) rows ≡ rows_text i rows ++ row_line (get_or rows i (row_of 0)).register (get_or rows i (row_of 0)).value
unfolding rows_text
row_more i rows = rw (add-one i)

pub words-one : (words : List ℕ) → words_text 0 words ≡ hex_of 8 (get_or words 0 0)
unfolding words_text
words-one words = refl

pub word_more : (i : ℕ) (words : List ℕ) → 1 ≤ i → words_text (i + 1 - 1) words ≡ words_text (i - 1) words ++ (typed ":" ++ hex_of 8 (get_or words i 0))
unfolding words_text
word_more zero words h = absurd (omega arith)
word_more (suc i) words h =
    let this : suc i + 1 - 1 ≡ suc i = omega arith in
    let before : suc i - 1 ≡ i = omega arith in
    rw (this, before)

pub bytes-none : (at : ℕ) (bytes : List ℕ) → bytes_text 0 at bytes ≡ []
unfolding bytes_text
bytes-none at bytes = refl

pub byte_more : (i at : ℕ) (bytes : List ℕ) → bytes_text (i + 1) at bytes ≡ bytes_text i at bytes ++ hex_of 2 (get_or bytes (at + i) 0)
unfolding bytes_text
byte_more i at bytes = rw (add-one i)

pub blocks-none : (bytes : List ℕ) → blocks_text 0 bytes ≡ []
unfolding blocks_text
blocks-none bytes = refl

pub block_more : (i : ℕ) (bytes : List ℕ) → blocks_text (i + 1) bytes ≡ blocks_text i bytes ++ block_line i bytes
unfolding blocks_text
block_more i bytes = rw (add-one i)

-- what loops over them need, for `using(..)`
pub ruleset more = (rows_none, row_more, words-one, bytes-none, byte_more, blocks-none, block_more)
