-- What each call on a host comes to: its answer, the words it used and the rows it wrote, the row list, the lent buffer and
-- the next host; for every script, list, buffer and argument. A call is served by running its plan.
use Rattle.std.specs.Prelude.{ℕ, ◌*◌, ◌/◌, ◌%◌, min, Bool, true, false, cond, ◌&&◌, ◌||◌, List, [], ◌++◌, eqb, ltb, length, take, drop, replicate, Result, Ok, Err}
use Rattle.types.specs.declared.clock.Clock.{Clock}
use Rattle.types.specs.declared.card.Card.{Card}
use Rattle.types.specs.declared.card.Signalling.TheVariants.{SDR12}
use Rattle.types.specs.declared.clock.Hertz.{Hertz}
use Rattle.types.specs.declared.error.Answer.{Answer}
use Rattle.types.specs.declared.error.Answer.TheVariants as Answered
use Rattle.types.specs.declared.error.Error.{Error}
use Rattle.types.specs.declared.error.Error.TheVariants as E
use Rattle.types.specs.Leaf.{clock_of, address_of, stops_writes}
use Rattle.types.specs.Settings.{made_of}
use Rattle.types.specs.Words.{bytes_of, words_of, sd_status_of}
use Rattle.tape.specs.declared.progress.Halt.TheVariants.{Refused, ScriptEnded, TraceFull}
use Rattle.tape.specs.declared.progress.Line.{Line}
use Rattle.tape.specs.Pace.{Pace}
use Rattle.tape.specs.Pace.{Going, Stopped}
use Rattle.tape.specs.declared.rows.Row.{Row}
use Rattle.tape.specs.Plan.{Nothing, Cause, failed, ended, Plan}
use Rattle.tape.specs.Run.{State, run, run_from}
use Rattle.bus.specs.declared.transfer.Transfer.{Transfer}
use Rattle.bus.specs.Command.{app_command}
use Rattle.bus.specs.Ready.{wait_ready}
use Rattle.bus.specs.Transfer.{Buffer, incoming, outgoing, blocking_data}
use Rattle.init.specs.declared.settings.Settings.{Settings}
use Rattle.init.specs.Initialise.{source_of, limit_of, no_card, initialise}
use Rattle.host.specs.declared.host.Called.{Called}
use Rattle.host.specs.declared.host.Held.{Held}
use Rattle.host.specs.declared.host.Made.{Made}
use Rattle.host.specs.declared.host.Sdmmc.{Sdmmc}
use Rattle.host.specs.declared.host.StatusRead.{StatusRead}

-- what a host holds of its line before it speaks to a card, and at the start of an initialisation: CLKCR as the reset
-- leaves it, not gated, the clock of identification, SDR12
abbrev pub fresh_line : Hertz → Line
fresh_line clock = record { clkcr = 0; gated = false; clock = clock; signalling = SDR12 }

abbrev pub host_of : Settings → Line → Bool → Card → Sdmmc
host_of set line known card = record { settings = set; line = line; known = known; card = card }

-- what a call comes to: its answer, words used, rows written, the row list, its data words, and the next host
pub record Came : Type 0 where
  pub answer : Answer
  pub words : ℕ
  pub rows : ℕ
  pub list : List Row
  pub taken : List ℕ
  pub host : Sdmmc

abbrev pub came : Answer → State → List ℕ → Sdmmc → Came
came answer w words host =
    record {
      answer = answer;
      words = w.progress.used;
      rows = w.progress.rows;
      list = w.list;
      taken = words;
      host = host;
    }

-- what the caller gets of it as a value
abbrev pub called_of : Came → Called
called_of x = record { answer = x.answer; words = x.words; rows = x.rows; host = x.host }

-- host as before, no row, no word used
abbrev pub untouched : Sdmmc → Error → List Row → Came
untouched host e l = record { answer = Answered.Refused e; words = 0; rows = 0; list = l; taken = []; host = host }

-- a host with the line as a call left it: with a record, with none, with what it had
abbrev pub holding : Sdmmc → State → Card → Sdmmc
holding host w card = host_of host.settings w.progress.line true card

abbrev pub dropped : Sdmmc → State → Sdmmc
dropped host w = host_of host.settings w.progress.line false no_card

abbrev pub kept : Sdmmc → State → Sdmmc
kept host w = host_of host.settings w.progress.line host.known host.card

-- the answer of a call that is refused for this
abbrev pub answer_for : Cause → Answer
answer_for (failed e) = Answered.Refused e
answer_for ended = Answered.ScriptEnded

-- how a call ends: accepted, refused, at the script's end, which leaves what a refusal there does, or without room for a row,
-- which leaves the host as before
unfoldable pub ends : Sdmmc → Sdmmc → Sdmmc → List ℕ → Pace → State → Came
ends host refused accepted words Going w = came Answered.Accepted w words accepted
ends host refused accepted words (Stopped (Refused e)) w = came (Answered.Refused e) w [] refused
ends host refused accepted words (Stopped ScriptEnded) w = came Answered.ScriptEnded w [] refused
ends host refused accepted words (Stopped TraceFull) w = came Answered.TraceFull w [] host

-- Initialisation: any refusal of its plan leaves no record.

unfoldable pub init_from : Sdmmc → ℕ → Result Clock Error → List ℕ → List Row → Came
init_from host frequency (Err e) s l = untouched host e l
init_from host frequency (Ok c) s l =
    let x = run s no_card (initialise host.settings c frequency) 0 0 (fresh_line c.frequency) l in
    ends host (dropped host x.state) (holding host x.state x.value) [] x.state.progress.pace x.state

-- 17 for an asked frequency of 0 or over 50,000,000; then the clock of identification
unfoldable pub initialised : Sdmmc → ℕ → List ℕ → List Row → Came
initialised host frequency s l =
    cond (eqb frequency 0 || ltb 50_000_000 frequency) (untouched host E.BadClock l)
    (init_from host frequency (clock_of (source_of host.settings) 400_000 false) s l)

-- A read, a write and a status call: an approach, whose refusals keep the record, and the data phase, whose refusals leave none.

unfoldable pub transferred : Sdmmc → Plan (List ℕ) → (State → List ℕ → Sdmmc) → List ℕ → State → Came
transferred host transfer next s w =
    let x = run_from s [] transfer w in
    ends host (dropped host x.state) (next x.state x.value) x.value x.state.progress.pace x.state

-- the data phase begins exactly where the approach is still going
unfoldable pub approached : Sdmmc → Plan (List ℕ) → (State → List ℕ → Sdmmc) → List ℕ → Pace → State → Came
approached host transfer next s Going w = transferred host transfer next s w
approached host transfer next s (Stopped h) w = ends host (kept host w) host [] (Stopped h) w

unfoldable pub served : Sdmmc → Plan Nothing → Plan (List ℕ) → (State → List ℕ → Sdmmc) → List ℕ → List Row → Came
served host approach transfer next s l =
    let x = run s (tt {0}) approach 0 0 host.line l in
    approached host transfer next s x.state.progress.pace x.state

-- Reads and writes of blocks: the same but for the command, and for which way the words go in the data phase.

-- CMD17 for one block, CMD18 for more; of a write CMD24 and CMD25
abbrev pub blocks_index : Buffer → ℕ → ℕ
blocks_index incoming blocks = cond (eqb blocks 1) 17 18
blocks_index (outgoing ws) blocks = cond (eqb blocks 1) 24 25

-- of 2 ^ 9 bytes
abbrev pub blocks_transfer : Buffer → ℕ → ℕ → Transfer
blocks_transfer buffer address blocks =
    record { index = blocks_index buffer blocks; argument = address; block_size = 9; words = 128 * blocks }

abbrev pub blocks_plan : Sdmmc → Buffer → ℕ → ℕ → Plan (List ℕ)
blocks_plan host buffer address blocks =
    blocking_data (source_of host.settings) host.settings.config buffer (blocks_transfer buffer address blocks) host.card.rca

-- an accepted one changes the line alone
abbrev pub blocks_next : Sdmmc → State → List ℕ → Sdmmc
blocks_next host w ws = kept host w

abbrev pub blocks_data : Sdmmc → Buffer → ℕ → ℕ → List ℕ → State → Came
blocks_data host buffer address blocks s w = transferred host (blocks_plan host buffer address blocks) (blocks_next host) s w

unfoldable pub blocks_from : Sdmmc → Buffer → ℕ → Result ℕ Error → List ℕ → List Row → Came
blocks_from host buffer blocks (Err e) s l = untouched host e l
blocks_from host buffer blocks (Ok a) s l =
    served host (wait_ready (source_of host.settings) host.settings.config host.card.rca)
    (blocks_plan host buffer a blocks) (blocks_next host) s l

-- THE CHECKS BEFORE ANYTHING REACHES THE CARD, in their order: 16; at a write 26, where the card is protected against writing (P8);
-- 19 for a byte length not a multiple of 512, for 0 blocks or over 511; 20 when index plus count exceeds the blocks. Then the address
unfoldable pub blocks_judged : Sdmmc → Bool → ℕ → ℕ → Result ℕ Error
blocks_judged host sends index bytes =
    cond host.known
    (cond (sends && stops_writes host.card.protection) (Err E.WriteProtected)
    (cond (eqb (bytes % 512) 0)
    (address_of host.card.card_type host.card.block_count.0 index (bytes / 512))
    (Err E.InvalidBufferLength)))
    (Err E.NoCard)

-- a write sends its words
abbrev pub sends : Buffer → Bool
sends incoming = false
sends (outgoing ws) = true

unfoldable pub blocks_came : Sdmmc → Buffer → ℕ → ℕ → List ℕ → List Row → Came
blocks_came host buffer index bytes s l =
    blocks_from host buffer (bytes / 512) (blocks_judged host (sends buffer) index bytes) s l

-- a read, into a buffer of so many bytes
abbrev pub read_came : Sdmmc → ℕ → ℕ → List ℕ → List Row → Came
read_came host index bytes s l = blocks_came host incoming index bytes s l

-- a write of these bytes, as little-endian words
abbrev pub write_came : Sdmmc → ℕ → List ℕ → List ℕ → List Row → Came
write_came host index bytes s l = blocks_came host (outgoing (words_of bytes)) index (length bytes) s l

-- the buffer after a read: each block's 128 words as its 512 bytes, little-endian, as many blocks as there are words for; there
-- are none unless the call was accepted
unfoldable pub blocks_filled : List ℕ → List ℕ → List ℕ
blocks_filled words buffer =
    let n = min (length words / 128) (length buffer / 512) in
    bytes_of (take (128 * n) words) ++ drop (512 * n) buffer

abbrev pub buffer_of : Came → List ℕ → List ℕ
buffer_of x buffer = blocks_filled x.taken buffer

-- SD status.

abbrev pub status_transfer : Transfer
status_transfer = record { index = 13; argument = 0; block_size = 6; words = 16 }

abbrev pub with_status : Card → List ℕ → Card
with_status card status =
    record {
      card_type = card.card_type;
      ocr = card.ocr;
      rca = card.rca;
      cid = card.cid;
      csd = card.csd;
      scr = card.scr;
      status = status;
      block_count = card.block_count;
      protection = card.protection;
    }

-- the data phase of ACMD13
abbrev pub status_plan : Sdmmc → Plan (List ℕ)
status_plan host = blocking_data (source_of host.settings) host.settings.config incoming status_transfer host.card.rca

abbrev pub status_next : Sdmmc → State → List ℕ → Sdmmc
status_next host w ws = holding host w (with_status host.card (sd_status_of ws))

abbrev pub status_data : Sdmmc → List ℕ → State → Came
status_data host s w = transferred host (status_plan host) (status_next host) s w

-- 16; CMD55, and the data phase
abbrev pub status_from : Sdmmc → List ℕ → List Row → Came
status_from host s l = served host (app_command (limit_of host.settings) host.card.rca) (status_plan host) (status_next host) s l

unfoldable pub status_came : Sdmmc → List ℕ → List Row → Came
status_came host s l = cond host.known (status_from host s l) (untouched host E.NoCard l)

-- the status that a call gives of the one that was read: zeros unless it was accepted
abbrev pub status_given : Answer → List ℕ → List ℕ
status_given Answered.Accepted status = status
status_given (Answered.Refused e) status = replicate 16 0
status_given Answered.ScriptEnded status = replicate 16 0
status_given Answered.TraceFull status = replicate 16 0
status_given Answered.BadBook status = replicate 16 0

-- what the caller gets of a status call as a value: the status is that of the words that it took
abbrev pub status_read_of : Came → StatusRead
status_read_of x =
    record {
      answer = x.answer;
      words = x.words;
      rows = x.rows;
      status = status_given x.answer (sd_status_of x.taken);
      host = x.host;
    }

-- What a host holds of its card: 16 where it has none.

abbrev pub held_of : Sdmmc → Held
held_of host =
    cond host.known (record { answer = Answered.Accepted; card = host.card })
    (record { answer = Answered.Refused E.NoCard; card = no_card })

-- Making. The answer, and the host: zeros where it is refused.

abbrev pub no_host : Sdmmc
no_host =
    host_of
    (record {
      source = record { 0 = 0 };
      config =
          record {
            data_transfer_timeout = 0;
            software_timeout_ms = 0;
            poll_limit = 0;
            card_ready_attempts = 0;
            allow_clock_bypass = false;
          };
      wide = false;
    })
    (fresh_line (record { 0 = 0 })) false no_card

unfoldable pub clocked_host : Settings → Result Clock Error → Made
clocked_host set (Ok c) = record { answer = Answered.Accepted; host = host_of set (fresh_line c.frequency) false no_card }
clocked_host set (Err e) = record { answer = Answered.Refused e; host = no_host }

unfoldable pub judged_host : Settings → Result (Unit {0}) Error → Made
judged_host set (Ok tt) = clocked_host set (clock_of (source_of set) 400_000 false)
judged_host set (Err e) = record { answer = Answered.Refused e; host = no_host }

unfoldable pub made : Settings → Made
made set = judged_host set (made_of (source_of set) set.config)
