-- What is printed of a call with what happened, for a card that is tried without a reader.
use Rattle.std.specs.Prelude.{ℕ, ◌+◌, ◌*◌, ◌/◌, min, cond, List, [], ◌∷◌, ◌++◌, eqb, length, replicate}
use Rattle.std.proofs.Math.Option.{Option, none, some}
use Rattle.tape.specs.declared.rows.Row.{Row}
use Rattle.tape.specs.Layout.{rows_in}
use Rattle.host.specs.declared.host.Made.{Made}
use Rattle.host.specs.declared.host.Sdmmc.{Sdmmc}
use Rattle.host.specs.Calls.{Came, made}
use Rattle.types.specs.declared.error.Answer.{Answer}
use Rattle.types.specs.declared.error.Answer.TheVariants as Answered
use Rattle.calls.specs.Serve as S
use Rattle.calls.specs.Serve.{comes}
use Rattle.book.specs.Layout as L
use Rattle.book.specs.Layout.{Book}
use Rattle.book.specs.Lines.{host_line}
use Rattle.book.specs.declared.layout.Asked.{Asked}
use Rattle.book.specs.Readers.{asked_at, call_asked}
use Rattle.report.specs.Report.{rows_text, carried_text, state_text, status_text, blocks_text}
use Rattle.bench.specs.Bench.{settings_of, call_with, asking, call_of, buffer_after, number_of, came_line, where_accepted}

-- only at an accepted read or status call: its blocks, or the sixteen words
unfoldable pub given_text : S.Call → Came → List ℕ → List ℕ
given_text (S.initialise frequency s l) x buffer = []
given_text (S.read index bytes s l) x buffer = where_accepted x.answer (blocks_text (bytes / 512) buffer)
given_text (S.status s l) x buffer = where_accepted x.answer (status_text x.host.card.status)
given_text (S.write index bytes s l) x buffer = []

-- the same of a kind, as a book numbers them
abbrev pub kind_text : ℕ → Sdmmc → ℕ → List ℕ → List ℕ
kind_text kind host count buffer =
    cond (eqb kind 1) []
    (cond (eqb kind 2) (blocks_text count buffer) (cond (eqb kind 4) [] (status_text host.card.status)))

-- its line; every row; the word that its answer carries; the host's state; what it gave
abbrev pub trace_text : ℕ → S.Call → Came → List ℕ → List ℕ
trace_text k c x buffer =
    came_line k c x ++ (rows_text x.rows x.list ++ carried_text x.answer ++ state_text x.host) ++ given_text c x buffer

-- the same of a call of a book's words, from the row list and the buffer before it
abbrev pub traced_text : ℕ → Sdmmc → List Row → List ℕ → List ℕ → Asked → List ℕ
traced_text k host l buffer ws asked =
    let c = asking l buffer ws asked in
    trace_text k c (comes host c) (buffer_after c (comes host c) buffer)

-- a call with a buffer of zeros
abbrev pub call_text : ℕ → Sdmmc → ℕ → S.Call → List ℕ
call_text k host bytes c = trace_text k c (comes host c) (buffer_after c (comes host c) (replicate bytes 0))

-- the host's line, and its state where there is one
abbrev pub head_text : Made → List ℕ
head_text m = host_line (number_of m.answer) ++ where_accepted m.answer (state_text m.host)

-- so many calls are served, none where there is no host
unfoldable pub calls_served : Answer → ℕ → ℕ
calls_served Answered.Accepted n = n
calls_served (Answered.Refused e) n = 0
calls_served Answered.ScriptEnded n = 0
calls_served Answered.TraceFull n = 0
calls_served Answered.BadBook n = 0

-- call k of a book's words, counted from 0, whose body starts at a place: with at most 4,096 rows of room and 16 blocks,
-- which every call of a book keeps to
abbrev pub bytes_at : List ℕ → ℕ → ℕ → ℕ
bytes_at ws k place = 512 * min (asked_at ws k place).b 16

-- where the next body starts, as far as the words go
abbrev pub place_after : List ℕ → ℕ → ℕ → ℕ
place_after ws k place = min (place + (asked_at ws k place).body_len) (length ws)

abbrev pub call_at : List ℕ → ℕ → ℕ → ℕ → S.Call
call_at ws k place room =
    call_with (rows_in (replicate (min room 4096) 0)) (replicate (bytes_at ws k place) 0) (call_asked ws (asked_at ws k place))

-- WHAT IS PRINTED OF A BOOK, with so many rows of room a call
unfoldable pub calls_text : ℕ → ℕ → Sdmmc → List L.Call → List ℕ
calls_text room k host [] = []
calls_text room k host (c ∷ cs) =
    call_text k host (512 * c.b) (call_of room c) ++ calls_text room (k + 1) (comes host (call_of room c)).host cs

abbrev pub book_text : ℕ → Option Book → List ℕ
book_text room none = host_line (number_of Answered.BadBook)
book_text room (some book) =
    head_text (made (settings_of book))
    ++ where_accepted (made (settings_of book)).answer (calls_text room 1 (made (settings_of book)).host book.calls)
