-- Document 01, 'The bench book and its program', with the writes of request P5 and the protection of P8: what a book's calls come
-- to, and the lines that are printed of them.
use Rattle.std.specs.Prelude.{ℕ, ◌+◌, ◌*◌, ◌/◌, ◌%◌, cond, List, [], ◌∷◌, ◌++◌, map, eqb, length, replicate}
use Rattle.std.proofs.Math.Option.{Option, none, some}
use Rattle.types.specs.declared.error.Answer.{Answer}
use Rattle.types.specs.declared.error.Answer.TheVariants as Answered
use Rattle.types.specs.Answer.{answer_told}
use Rattle.tape.specs.declared.rows.Row.{Row}
use Rattle.tape.specs.Layout.{rows_in}
use Rattle.init.specs.declared.settings.Settings.{Settings}
use Rattle.host.specs.declared.host.Sdmmc.{Sdmmc}
use Rattle.host.specs.Calls.{Came, blocks_filled, buffer_of, made}
use Rattle.calls.specs.Serve as S
use Rattle.calls.specs.Serve.{comes, serve}
use Rattle.book.specs.Layout as L
use Rattle.book.specs.Layout.{Book, book_of}
use Rattle.book.specs.declared.layout.Asked.{Asked}
use Rattle.book.specs.declared.layout.Heading.{Heading}
use Rattle.book.specs.Readers.{asked_at, call_asked}
use Rattle.book.specs.Lines.{host_line, call_line}

-- source, poll limit, ready attempts, data timeout, software timeout, flags (1 bypass, 2 wide)
abbrev pub settings_with : ℕ → ℕ → ℕ → ℕ → ℕ → ℕ → Settings
settings_with source limit attempts timeout software flags =
    record {
      source = record { 0 = source };
      config =
          record {
            data_transfer_timeout = timeout;
            software_timeout_ms = software;
            poll_limit = limit;
            card_ready_attempts = attempts;
            allow_clock_bypass = eqb (flags % 2) 1;
          };
      wide = eqb (flags / 2) 1;
    }

abbrev pub settings_of : Book → Settings
settings_of book = settings_with book.source book.poll_limit book.ready_attempts book.data_timeout book.software_timeout book.flags

-- the same, of what stands in front of a book's words
abbrev pub settings_in : Heading → Settings
settings_in h = settings_with h.source h.poll_limit h.ready_attempts h.data_timeout h.software_timeout h.flags

-- kind (1 initialise, 2 read, 3 status, 4 write), a (frequency, index, 0, index), b (0, blocks, 0, blocks), its script; with a
-- row list, and a buffer: a read is of its bytes, and of a write the data words are laid into it, little-endian
abbrev pub call_with : List Row → List ℕ → L.Call → S.Call
call_with l buffer c =
    cond (eqb c.kind 1) (S.initialise c.a c.script l)
    (cond (eqb c.kind 2) (S.read c.a (length buffer) c.script l)
    (cond (eqb c.kind 4) (S.write c.a (blocks_filled c.«data» buffer) c.script l) (S.status c.script l)))

-- a call of a book's words
abbrev pub asking : List Row → List ℕ → List ℕ → Asked → S.Call
asking l buffer ws asked = call_with l buffer (call_asked ws asked)

-- so many rows of room a call, and a buffer of its blocks
abbrev pub call_of : ℕ → L.Call → S.Call
call_of room c = call_with (rows_in (replicate room 0)) (replicate (512 * c.b) 0) c

-- the buffer after it: a read fills it, and a write's bytes lie in it
unfoldable pub buffer_after : S.Call → Came → List ℕ → List ℕ
buffer_after (S.initialise frequency s l) x buffer = buffer
buffer_after (S.read index bytes s l) x buffer = buffer_of x buffer
buffer_after (S.status s l) x buffer = buffer
buffer_after (S.write index bytes s l) x buffer = bytes

abbrev pub number_of : Answer → ℕ
number_of answer = (answer_told answer).number

-- the kind that a book has for a call
unfoldable pub kind_of : S.Call → ℕ
kind_of (S.initialise frequency s l) = 1
kind_of (S.read index bytes s l) = 2
kind_of (S.status s l) = 3
kind_of (S.write index bytes s l) = 4

abbrev pub came_line : ℕ → S.Call → Came → List ℕ
came_line k c x = call_line k (kind_of c) x.answer x.words x.rows x.host.card.protection

-- what each call came to, a line each, numbered from k on
unfoldable pub lines_from : ℕ → List S.Call → List Came → List ℕ
lines_from k [] xs = []
lines_from k (c ∷ cs) [] = []
lines_from k (c ∷ cs) (x ∷ xs) = came_line k c x ++ lines_from (k + 1) cs xs

-- the lines of calls that a host serves one after the other
abbrev pub lines_served : ℕ → Sdmmc → List S.Call → List ℕ
lines_served k host cs = lines_from k cs (serve host cs).came

-- call k of a book's words, counted from 0, whose body starts at a place: what it comes to, its line, the host after it
abbrev pub call_in : List ℕ → ℕ → ℕ → S.Call
call_in ws k place = call_of 4096 (call_asked ws (asked_at ws k place))

abbrev pub came_of : Sdmmc → List ℕ → ℕ → ℕ → Came
came_of host ws k place = comes host (call_in ws k place)

abbrev pub line_of : Sdmmc → List ℕ → ℕ → ℕ → List ℕ
line_of host ws k place = came_line (k + 1) (call_in ws k place) (came_of host ws k place)

abbrev pub host_after : Sdmmc → List ℕ → ℕ → ℕ → Sdmmc
host_after host ws k place = (came_of host ws k place).host

-- a text only where the answer is accepted
unfoldable pub where_accepted : Answer → List ℕ → List ℕ
where_accepted Answered.Accepted text = text
where_accepted (Answered.Refused e) text = []
where_accepted Answered.ScriptEnded text = []
where_accepted Answered.TraceFull text = []
where_accepted Answered.BadBook text = []

unfoldable pub book_lines : Book → List ℕ
book_lines book =
    let host = made (settings_of book) in
    host_line (number_of host.answer)
    ++ where_accepted host.answer (lines_served 1 host.host (map (call_of 4096) book.calls))

abbrev pub lines_of : Option Book → List ℕ
lines_of none = host_line (number_of Answered.BadBook)
lines_of (some book) = book_lines book

-- WHAT IS PRINTED OF A FILE'S BYTES
abbrev pub printed : List ℕ → List ℕ
printed bytes = lines_of (book_of bytes)
