-- What is laid on a sheet when a book is told: for each call the call as the book has it, its events in their order, its line
-- and the state. Each line goes where the sheet has room for it.
use Rattle.std.specs.Prelude.{ℕ, zero, suc, ◌+◌, ◌≤◌, min, Result, IsOk, cond, List, ◌≡◌, eqb, length, replicate}
use Rattle.text.specs.Ink.{inked, next}
use Rattle.tape.specs.declared.rows.Row.{Row}
use Rattle.tape.specs.Layout.{rows_in}
use Rattle.tape.specs.Plan.{Plan}
use Rattle.host.specs.declared.host.Called.{Called}
use Rattle.host.specs.declared.host.Sdmmc.{Sdmmc}
use Rattle.types.specs.Words.{words_of}
use Rattle.bus.specs.Transfer.{incoming, outgoing}
use Rattle.host.specs.Calls.{called_of, blocks_filled}
use Rattle.calls.specs.Serve.{comes}
use Rattle.step.specs.Next as N
use Rattle.stepping.specs.Closing.{Closing}
use Rattle.underway.specs.Under.{Under}
use Rattle.underway.specs.Whole.{init_call, blocks_call, status_call}
use Rattle.feed.specs.declared.turn.Event.{Event}
use Rattle.feed.specs.declared.turn.Event.TheVariants as F
use Rattle.feed.specs.Runs.{next_span}
use Rattle.feed.specs.Turns.{Way, starts, turn_of, goes_on}
use Rattle.book.specs.declared.layout.Asked.{Asked}
use Rattle.book.specs.Lines.{call_line}
use Rattle.book.specs.Readers.{asked_at, call_asked}
use Rattle.report.specs.Report.{state_text}
use Rattle.events.specs.declared.event.Event.TheVariants as E
use Rattle.events.specs.Event.{event_text}
use Rattle.bench.specs.Bench.{asking}
use Rattle.bench.specs.Trace.{bytes_at, place_after, call_at}
use Rattle.sheet.specs.Sheet.{place_for}
use Rattle.sheet.specs.Lines.{begins_text}
use Rattle.tracing.specs.Traced.{Point}

-- so much of a buffer is still to be written, and what the buffer holds
pub record Leaf : Type 0 where
  pub at : ℕ
  pub out : List ℕ

abbrev pub leaf : ℕ → List ℕ → Leaf
leaf at out = record { at = at; out = out }

-- after a line
abbrev pub lined : List ℕ → Leaf → Leaf
lined line p =
    let place = place_for (length p.out) p.at in
    record { at = next place line p.out; out = inked place line p.out }

-- after an event: a row that found no room was not written, and the end is no event
unfoldable pub evented : Event → Leaf → Leaf
evented (F.Read r w) p = lined (event_text (E.Read r w)) p
evented (F.Missed r) p = lined (event_text (E.Missed r)) p
evented (F.Wrote r) p = lined (event_text (E.Wrote r)) p
evented (F.Full r) p = p
evented F.Over p = p

-- after a turn, and after the turns that follow it, so many at most
module _ (s : List ℕ) where
  unfoldable pub turns_on : ℕ → Way → List Row → Leaf → Leaf
  turns_on zero w l p = p
  turns_on (suc k) w l p =
      let t = turn_of s w l in
      cond (goes_on t.event) (turns_on k t.next t.list (evented t.event p)) (evented t.event p)

  -- ALL THE EVENTS OF A CALL: of its readings and rows, which are turns that others follow, and of its last turn
  abbrev pub events_of : Way → List Row → Leaf → Leaf
  events_of w l p = turns_on (suc (next_span s w.call.ahead w.used)) w l p

-- a call of a book at its start: a write sends these words
unfoldable pub plan_of : Sdmmc → ℕ → ℕ → List ℕ → ℕ → Plan Closing
plan_of host kind a sent bytes =
    cond (eqb kind 1) (init_call host a)
    (cond (eqb kind 2) (blocks_call host incoming a bytes)
    (cond (eqb kind 4) (blocks_call host (outgoing sent) a bytes) (status_call host)))

abbrev pub begun : Sdmmc → Asked → List ℕ → ℕ → Under
begun host asked sent bytes =
    record { before = host; ahead = N.next (plan_of host asked.kind asked.a sent bytes) host.line }

-- with a buffer, into which the data words of a write are laid
abbrev pub begins : Sdmmc → List ℕ → Asked → List ℕ → Under
begins host ws asked buffer =
    begun host asked (words_of (blocks_filled (call_asked ws asked).«data» buffer)) (length buffer)

-- the last two lines of a call
abbrev pub ends_on : ℕ → ℕ → Called → Leaf → Leaf
ends_on number kind c p =
    lined (state_text c.host) (lined (call_line number kind c.answer c.words c.rows c.host.card.protection) p)

-- ALL OF A CALL, in the buffer from its start on
abbrev pub call_out : ℕ → Sdmmc → List ℕ → Asked → List ℕ → List Row → List ℕ → List ℕ
call_out number host ws asked buffer l out =
    (ends_on number asked.kind (called_of (comes host (asking l buffer ws asked)))
    (events_of (call_asked ws asked).script (starts (begins host ws asked buffer)) l (lined (begins_text number asked) (leaf 0 out)))
    ).out

-- call k of a book's words, counted from 0, with so many rows of room
abbrev pub stepped : List ℕ → ℕ → ℕ → Point → Point
stepped ws room k p = record {
  host = (comes p.host (call_at ws k p.place room)).host;
  place = place_after ws k p.place;
  out = call_out (k + 1) p.host ws (asked_at ws k p.place) (replicate (bytes_at ws k p.place) 0) (rows_in (replicate (min room 4096) 0)) p.out;
}

-- after the first so many calls
unfoldable pub after_calls : List ℕ → ℕ → Point → ℕ → Point
after_calls ws room start zero = start
after_calls ws room start (suc k) = stepped ws room k (after_calls ws room start k)

-- so many of the calls were told, all of them where all was written, and this is what the buffer holds. How many could be
-- written is in no contract
pub record Tellings {E : Type 0} (ws : List ℕ) (room : ℕ) (start : Point) (calls : ℕ) (all : Result (Unit {0}) E) (out : List ℕ) : Type 0 where
  pub served : ℕ
  pub within : served ≤ calls
  pub whole : IsOk all → served ≡ calls
  pub last : out ≡ (after_calls ws room start served).out
