-- Calls one after the other in the caller's own row list and buffer, and what the last of them came to as one number.
use Rattle.std.specs.Prelude.{ℕ, zero, suc, ◌+◌, ◌*◌, ◌%◌, ◌^◌, cond, List, ltb}
use Rattle.types.specs.declared.error.Answer.{Answer}
use Rattle.types.specs.declared.error.Answer.TheVariants as Answered
use Rattle.tape.specs.declared.rows.Row.{Row}
use Rattle.host.specs.declared.host.Called.{Called}
use Rattle.host.specs.declared.host.Made.{Made}
use Rattle.host.specs.declared.host.Sdmmc.{Sdmmc}
use Rattle.host.specs.Calls.{called_of, no_host, made}
use Rattle.calls.specs.Serve.{comes}
use Rattle.book.specs.Layout.{count_of, contents_of}
use Rattle.book.specs.Readers.{heading_of, asked_at}
use Rattle.bench.specs.Bench.{settings_in, asking, buffer_after, number_of}
use Rattle.bench.specs.Trace.{place_after, calls_served}

-- the answer's number in the top byte, the rows in the three below, the words in the low four
abbrev pub told_with : ℕ → ℕ → ℕ → ℕ
told_with number rows words = number * 2 ^ 56 + (rows % 2 ^ 24) * 2 ^ 32 + words % 2 ^ 32

abbrev pub told_of : Called → ℕ
told_of x = told_with (number_of x.answer) x.rows x.words

-- the host, the row list and the buffer as the last call left them, and what it came to
pub record Served : Type 0 where
  pub host : Sdmmc
  pub list : List Row
  pub buffer : List ℕ
  pub told : ℕ

-- call k of words laid out as a book's, counted from 0, whose body starts at a place; a read fills all of the buffer, and a write sends all of it, with its data words
-- in front
unfoldable pub served_at : List ℕ → ℕ → ℕ → Sdmmc → List Row → List ℕ → Served
served_at ws k place host l b =
    let c = asking l b ws (asked_at ws k place) in
    let x = comes host c in
    record { host = x.host; list = x.list; buffer = buffer_after c x b; told = told_of (called_of x) }

-- n calls from call k on
unfoldable pub served_from : ℕ → List ℕ → ℕ → ℕ → Served → Served
served_from zero ws k place x = x
served_from (suc n) ws k place x =
    served_from n ws (k + 1) (place_after ws k place) (served_at ws k place x.host x.list x.buffer)

-- before the first call: what making the host came to
abbrev pub unserved : Answer → Sdmmc → List Row → List ℕ → Served
unserved answer host l b = record { host = host; list = l; buffer = b; told = told_with (number_of answer) 0 0 }

-- all calls on a host, none where there is no host
abbrev pub served_on : Made → List ℕ → List Row → List ℕ → Served
served_on m ws l b = served_from (calls_served m.answer (count_of ws)) ws 0 (contents_of ws) (unserved m.answer m.host l b)

-- WHAT THE CALLS COME TO, of words laid out as a book's; over 65,535 ready attempts they are no book
unfoldable pub metered : List ℕ → List Row → List ℕ → Served
metered ws l b =
    cond (ltb 65535 (heading_of ws).ready_attempts) (unserved Answered.BadBook no_host l b)
    (served_on (made (settings_in (heading_of ws))) ws l b)
