-- Any list of calls on one host, and the record that is to be held after it. The order's third demand, as request P3 changes it:
-- 'Take any list of calls on one host, leaving out those answered TraceFull. The record held is that of the last accepted
-- initialisation, its status that of the last accepted status read since, or zero. There is none before the first, nor once an
-- initialisation of allowed frequency, or a call whose data phase had begun, was refused since.'
use Rattle.std.specs.Prelude.{ℕ, Bool, true, false, cond, not, ◌||◌, List, [], ◌∷◌, ◌≡◌, eqb, ltb, length, replicate, Result, Ok, Err}
use Rattle.types.specs.declared.clock.Clock.{Clock}
use Rattle.types.specs.declared.error.Error.{Error}
use Rattle.types.specs.declared.card.Card.{Card}
use Rattle.types.specs.declared.error.Answer.{Answer}
use Rattle.types.specs.declared.error.Answer.TheVariants as Answered
use Rattle.types.specs.declared.error.Error.TheVariants as E
use Rattle.types.specs.Leaf.{clock_of}
use Rattle.types.specs.Words.{sd_status_of}
use Rattle.tape.specs.declared.progress.Line.{Line}
use Rattle.tape.specs.Pace.{Pace}
use Rattle.tape.specs.Pace.{Going, Stopped}
use Rattle.tape.specs.declared.rows.Row.{Row}
use Rattle.tape.specs.Plan.{Nothing, Plan}
use Rattle.tape.specs.Run.{run}
use Rattle.bus.specs.Command.{app_command}
use Rattle.bus.specs.Ready.{wait_ready}
use Rattle.init.specs.declared.settings.Settings.{Settings}
use Rattle.init.specs.Initialise as I
use Rattle.init.specs.Initialise.{source_of, limit_of, no_card}
use Rattle.host.specs.declared.host.Held.{Held}
use Rattle.host.specs.declared.host.Sdmmc.{Sdmmc}
use Rattle.host.specs.Calls.{Came, fresh_line, initialised, blocks_judged, read_came, write_came, status_came, with_status}

-- a call: what is asked, its script, and its row list
pub data Call : Type 0 where
  initialise : (frequency : ℕ) (script : List ℕ) (list : List Row) → Call
  read : (index bytes : ℕ) (script : List ℕ) (list : List Row) → Call
  write : (index : ℕ) (bytes : List ℕ) (script : List ℕ) (list : List Row) → Call
  status : (script : List ℕ) (list : List Row) → Call

-- what it comes to on a host: what the contract of its method says
unfoldable pub comes : Sdmmc → Call → Came
comes host (initialise frequency s l) = initialised host frequency s l
comes host (read index bytes s l) = read_came host index bytes s l
comes host (write index bytes s l) = write_came host index bytes s l
comes host (status s l) = status_came host s l

-- a list of calls, each on the host that the one before it left: what each came to, and the last host
pub record Served : Type 0 where
  pub came : List Came
  pub host : Sdmmc

unfoldable pub serve : Sdmmc → List Call → Served
serve host [] = record { came = []; host = host }
serve host (c ∷ cs) =
    let x = comes host c in
    let rest = serve x.host cs in
    record { came = x ∷ rest.came; host = rest.host }

-- What is told of a call, apart from the host that it leaves.

-- the record that an initialisation gave: its plan takes the settings and the asked frequency alone
unfoldable pub found_from : Settings → ℕ → Result Clock Error → List ℕ → List Row → Card
found_from set frequency (Err e) s l = no_card
found_from set frequency (Ok c) s l = (run s no_card (I.initialise set c frequency) 0 0 (fresh_line c.frequency) l).value

unfoldable pub found_by : Settings → Call → Card
found_by set (initialise frequency s l) = found_from set frequency (clock_of (source_of set) 400_000 false) s l
found_by set (read index bytes s l) = no_card
found_by set (write index bytes s l) = no_card
found_by set (status s l) = no_card

-- the place before a data phase: the ready wait of a read or a write, and CMD55 of a status call, end there
pub data Approach : Type 0 where
  none : Approach
  approach : Plan Nothing → Approach

abbrev pub addressed : Sdmmc → Result ℕ Error → Approach
addressed host (Err e) = none
addressed host (Ok a) = approach (wait_ready (source_of host.settings) host.settings.config host.card.rca)

-- of so many bytes from a block on, sent or not
unfoldable pub blocks_approach : Sdmmc → Bool → ℕ → ℕ → Approach
blocks_approach host sends index bytes = addressed host (blocks_judged host sends index bytes)

unfoldable pub approach_of : Sdmmc → Call → Approach
approach_of host (initialise frequency s l) = none
approach_of host (read index bytes s l) = blocks_approach host false index bytes
approach_of host (write index bytes s l) = blocks_approach host true index (length bytes)
approach_of host (status s l) = cond host.known (approach (app_command (limit_of host.settings) host.card.rca)) none

unfoldable pub going : Pace → Bool
going Going = true
going (Stopped x) = false

unfoldable pub passed : Approach → Line → List ℕ → List Row → Bool
passed none line s l = false
passed (approach p) line s l = going (run s (tt {0}) p 0 0 line l).state.progress.pace

-- whether a call's data phase had begun: its plan was run past that place
unfoldable pub begun : Sdmmc → Call → Bool
begun host (initialise frequency s l) = passed (approach_of host (initialise frequency s l)) host.line s l
begun host (read index bytes s l) = passed (approach_of host (read index bytes s l)) host.line s l
begun host (write index bytes s l) = passed (approach_of host (write index bytes s l)) host.line s l
begun host (status s l) = passed (approach_of host (status s l)) host.line s l

-- a call's outcome: its answer, whether its data phase had begun, the record it found, the data words it took
pub record Told : Type 0 where
  pub call : Call
  pub answer : Answer
  pub begun : Bool
  pub found : Card
  pub taken : List ℕ

abbrev pub told_of : Sdmmc → Call → Told
told_of host c =
    record {
      call = c;
      answer = (comes host c).answer;
      begun = begun host c;
      found = found_by host.settings c;
      taken = (comes host c).taken;
    }

-- the answer that is left out
unfoldable pub left_out : Answer → Bool
left_out Answered.Accepted = false
left_out (Answered.Refused e) = false
left_out Answered.ScriptEnded = false
left_out Answered.TraceFull = true
left_out Answered.BadBook = false

-- what a call came to on another host, as this one's: TraceFull leaves this host as it was, any other answer the same host
abbrev pub as_new : Sdmmc → Came → Came
as_new host y =
    record {
      answer = y.answer;
      words = y.words;
      rows = y.rows;
      list = y.list;
      taken = y.taken;
      host = cond (left_out y.answer) host y.host;
    }

-- the same clock, signalling and gate
pub record SameLine (h h' : Line) : Type 0 where
  pub gated : h'.gated ≡ h.gated
  pub clock : h'.clock ≡ h.clock
  pub signalling : h'.signalling ≡ h.signalling

-- a list of calls without those left out, and what the others come to
unfoldable pub remaining : Sdmmc → List Call → List Call
remaining host [] = []
remaining host (c ∷ cs) =
    let rest = remaining (comes host c).host cs in
    cond (left_out (comes host c).answer) rest (c ∷ rest)

unfoldable pub counted : List Came → List Came
counted [] = []
counted (x ∷ xs) = cond (left_out x.answer) (counted xs) (x ∷ counted xs)

-- the calls of a list with their outcomes, but for those left out, the latest in front, on top of those before
unfoldable pub history : List Told → Sdmmc → List Call → List Told
history past host [] = past
history past host (c ∷ cs) = history (cond (left_out (comes host c).answer) past (told_of host c ∷ past)) (comes host c).host cs

-- The record expected: from calls and outcomes, without a host.

abbrev pub holds_none : Held
holds_none = record { answer = Answered.Refused E.NoCard; card = no_card }

abbrev pub holds : Card → Held
holds card = record { answer = Answered.Accepted; card = card }

-- 'an initialisation of allowed frequency'
abbrev pub allowed : ℕ → Bool
allowed frequency = not (eqb frequency 0 || ltb 50_000_000 frequency)

-- after an initialisation: that of an accepted one, with status zero; none once one of allowed frequency was refused, or its
-- script ended
unfoldable pub after_initialise : ℕ → Answer → Card → Held → Held
after_initialise frequency Answered.Accepted found before = holds (with_status found (replicate 16 0))
after_initialise frequency (Answered.Refused e) found before = cond (allowed frequency) holds_none before
after_initialise frequency Answered.ScriptEnded found before = cond (allowed frequency) holds_none before
after_initialise frequency Answered.TraceFull found before = before
after_initialise frequency Answered.BadBook found before = before

-- after a call with a data phase: none once one was refused, or its script ended, whose data phase had begun
unfoldable pub after_data : Answer → Bool → Held → Held → Held
after_data Answered.Accepted begun accepted before = accepted
after_data (Answered.Refused e) begun accepted before = cond begun holds_none before
after_data Answered.ScriptEnded begun accepted before = cond begun holds_none before
after_data Answered.TraceFull begun accepted before = before
after_data Answered.BadBook begun accepted before = before

unfoldable pub after_call : Call → Told → Held → Held
after_call (initialise frequency s l) t before = after_initialise frequency t.answer t.found before
after_call (read index bytes s l) t before = after_data t.answer t.begun before before
after_call (write index bytes s l) t before = after_data t.answer t.begun before before
after_call (status s l) t before =
    after_data t.answer t.begun (record { answer = before.answer; card = with_status before.card (sd_status_of t.taken) }) before

-- 'none before the first'
unfoldable pub expected : List Told → Held
expected [] = holds_none
expected (t ∷ earlier) = after_call t.call t (expected earlier)
