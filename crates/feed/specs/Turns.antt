-- A call that is fed from a script, told by what is ahead of it; and one turn of it, which says everything: what came about, how
-- the call goes on, and the list.
use Rattle.std.specs.Prelude.{ℕ, ◌+◌, Bool, true, false, cond, List, ltb, length, get_or, set, Option, Some, None}
use Rattle.types.specs.declared.error.Answer.TheVariants as Answered
use Rattle.tape.specs.declared.rows.Row.{Row}
use Rattle.host.specs.declared.host.Called.{Called}
use Rattle.host.specs.declared.host.Sdmmc.{Sdmmc}
use Rattle.host.specs.Calls.{Came}
use Rattle.step.specs.declared.wants.Wants.{Wants}
use Rattle.step.specs.declared.wants.Wants.TheVariants as W
use Rattle.step.specs.Next.{want_of, Lent, handed_to}
use Rattle.underway.specs.Under.{Under, under, answered, unanswered, written, closed_of}
use Rattle.feed.specs.Runs.{run_next, came_of, no_closing, lies_at, place_next}
use Rattle.feed.specs.declared.turn.Event.{Event}
use Rattle.feed.specs.declared.turn.Event.TheVariants as E
use Rattle.feed.specs.declared.turn.Feeding.{Feeding}
use Rattle.feed.specs.declared.turn.Turn.{Turn}
use Rattle.types.specs.declared.error.Answer.{Answer}

-- the words taken and the rows written so far, and where the data words lie
pub record Way : Type 0 where
  pub call : Under
  pub used : ℕ
  pub rows : ℕ
  pub place : ℕ

-- at its start
abbrev pub starts : Under → Way
starts u = record { call = u; used = 0; rows = 0; place = 0 }

abbrev pub lent : List ℕ → List ℕ → Lent
lent sent taken = record { sent = sent; taken = taken }

-- `g` are the words that it is to send, and those that were handed out so far
abbrev pub way_of : Lent → Feeding → Way
way_of g f = record { call = under g f.call; used = f.used; rows = f.rows; place = f.place }

pub record Turned : Type 0 where
  pub event : Event
  pub next : Way
  pub list : List Row

abbrev pub turned : Event → Way → List Row → Turned
turned event next list = record { event = event; next = next; list = list }

module _ (s : List ℕ) where
  -- a turn of a call that waits for this: the next word of the script, and where there is none the call is told so; or a row into
  -- the list, and where there is no room the call stays as it is
  unfoldable pub turn_by : Way → List Row → Wants → Turned
  turn_by w l (W.Read r) =
      cond (ltb w.used (length s))
      (turned (E.Read r (get_or s w.used 0))
      (record { call = answered w.call (get_or s w.used 0); used = w.used + 1; rows = w.rows; place = lies_at r w.used w.place }) l)
      (turned (E.Missed r) (record { call = unanswered w.call; used = w.used; rows = w.rows; place = w.place }) l)
  turn_by w l (W.Write r) =
      cond (ltb w.rows (length l))
      (turned (E.Wrote r) (record { call = written w.call; used = w.used; rows = w.rows + 1; place = w.place }) (set l w.rows r))
      (turned (E.Full r) w l)
  -- what is ahead never waits for this: `filled_in` made a row of it
  turn_by w l (W.Send k) = turned E.Over w l
  turn_by w l W.Nothing = turned E.Over w l

  abbrev pub turn_of : Way → List Row → Turned
  turn_of w l = turn_by w l (want_of w.call.ahead)

  -- what a call comes to from there on, and where its data words lie then
  abbrev pub fed_from : Way → List Row → Came
  fed_from w l = came_of w.call.before (run_next s (no_closing w.call.before) w.call.ahead w.used w.rows l)

  abbrev pub place_from : Way → List Row → ℕ
  place_from w l = place_next s w.call.ahead w.place w.used w.rows l

-- the data words handed out after a turn
unfoldable pub taken_at : Event → List ℕ → List ℕ
taken_at (E.Read r w) taken = handed_to r w taken
taken_at (E.Missed r) taken = taken
taken_at (E.Wrote r) taken = taken
taken_at (E.Full r) taken = taken
taken_at E.Over taken = taken

abbrev pub handed_at : Event → Lent → Lent
handed_at e g = record { sent = g.sent; taken = taken_at e g.taken }

abbrev pub turned_of : Lent → Turn → List Row → Turned
turned_of g t l = turned t.event (way_of (handed_at t.event g) t.feeding) l

-- whether another turn follows
unfoldable pub goes_on : Event → Bool
goes_on (E.Read r w) = true
goes_on (E.Missed r) = true
goes_on (E.Wrote r) = true
goes_on (E.Full r) = false
goes_on E.Over = false

-- what a call has come to where none follows: it is over, or its row found no room, and the host is as before
unfoldable pub called_with : Way → Sdmmc → Option Answer → Called
called_with w host (Some answer) = record { answer = answer; words = w.used; rows = w.rows; host = host }
called_with w host None = record { answer = Answered.TraceFull; words = w.used; rows = w.rows; host = w.call.before }

abbrev pub called_at : Way → Called
called_at w = called_with w (closed_of w.call).host (closed_of w.call).outcome
