-- How rows lie in a list: one in each word of 64 bits, and, where a list of 32-bit words is asked for, in two words one after the
-- other.
use Rattle.std.specs.Prelude.{ℕ, zero, suc, ◌+◌, ◌*◌, ◌/◌, ◌%◌, ◌^◌, Bool, ◌||◌, List, [], ◌∷◌, ◌++◌, map, ltb, length, get_or, set, take, drop}
use Rattle.tape.specs.declared.rows.Row.{Row}
use Rattle.tape.specs.Rows.{FIFO}

-- register * 2^32 + value
abbrev pub word_of : Row → ℕ
word_of r = r.register * 2 ^ 32 + r.value

abbrev pub row_of : ℕ → Row
row_of w = record { register = w / 2 ^ 32; value = w % 2 ^ 32 }

unfoldable pub words_of : List Row → List ℕ
words_of = map word_of

unfoldable pub rows_in : List ℕ → List Row
rows_in = map row_of

-- the old layout: register, value, register, value
unfoldable pub pairs_of : List Row → List ℕ
pairs_of [] = []
pairs_of (r ∷ rs) = r.register ∷ r.value ∷ pairs_of rs

-- what it tells, a last word alone left out
unfoldable pub rows_of_pairs : List ℕ → List Row
rows_of_pairs (register ∷ value ∷ ws) = record { register = register; value = value } ∷ rows_of_pairs ws
rows_of_pairs (w ∷ []) = []
rows_of_pairs [] = []

-- The old list out of the new one: its first n rows over the start of the list t, and what lies past them in t stays.
unfoldable pub pairs_over : ℕ → List Row → List ℕ → List ℕ
pairs_over n l t = pairs_of (take n l) ++ drop (2 * n) t

-- refused where the list has fewer rows, or t fewer than two words for each of them
abbrev pub too_short : ℕ → List Row → List ℕ → Bool
too_short n l t = ltb (length l) n || ltb (length t) (2 * n)

-- n words of ws from place k on, each as a row of FIFO, over the rows of a list from place m on
unfoldable pub sent_over : List ℕ → ℕ → ℕ → ℕ → List Row → List Row
sent_over ws k zero m l = l
sent_over ws k (suc n) m l = sent_over ws (k + 1) n (m + 1) (set l m (record { register = FIFO; value = get_or ws k 0 }))
