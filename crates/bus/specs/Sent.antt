-- What a call sent to the card, and what the card answered, told by the rows that the call wrote and the words that it took.
use Rattle.std.specs.Prelude.{ℕ, zero, suc, ◌%◌, cond, ◌&&◌, List, map, eqb, get_or}
use Rattle.types.specs.Bits.{bit}
use Rattle.types.specs.Words.{counted}
use Rattle.tape.specs.declared.rows.Row.{Row}
use Rattle.tape.specs.Layout.{row_of}
use Rattle.tape.specs.Rows.{CMD}

-- the command sent last, after a row: CMD = index + 64 * wait kind + 1024 sends one; the reset row of CMD, 0, sends none
unfoldable pub sent_after : Row → ℕ → ℕ
sent_after r index = cond (eqb r.register CMD && bit r.value 10) (r.value % 64) index

-- the index of the last command that the first n rows of a list send; 0 before the first
unfoldable pub last_sent : ℕ → List Row → ℕ
last_sent zero rows = 0
last_sent (suc n) rows = sent_after (get_or rows n (row_of 0)) (last_sent n rows)

-- an answer: the four words from place k of the script on
abbrev pub answer_at : List ℕ → ℕ → List ℕ
answer_at s k = map (λ i. get_or s i 0) (counted k 4)
