-- What is printed of a call, by the kind that its row has: its line, and what it gave where it was accepted.
use Prim.Native.Nat.{ℕ, ◌/◌}
use mathlib.Core.Bool.{Bool, true, false, cond}
use mathlib.Core.List.{List, [], ◌++◌}
use mathlib.Core.Path.{◌≡◌, refl, ap, ◌∙◌}
use Rattle.text.specs.Pens.{written}
use Rattle.text.specs.declared.pen.Pen.{Pen}
use lib.Dec.{eqb}
use lib.ListN.{length}
use Rattle.types.specs.declared.error.Answer.{Answer}
use Rattle.types.specs.declared.error.Answer.TheVariants as Answered
use Rattle.tape.specs.declared.rows.Row.{Row}
use Rattle.host.specs.declared.host.Called.{Called}
use Rattle.host.specs.declared.host.Sdmmc.{Sdmmc}
use Rattle.host.specs.Calls.{Came, called_of, blocks_filled}
use Rattle.calls.specs.Serve as S
use Rattle.calls.specs.Serve.{comes}
use Rattle.book.specs.Layout as L
use Rattle.book.specs.Lines.{call_line}
use Rattle.book.specs.declared.layout.Asked.{Asked}
use Rattle.book.specs.Readers.{call_asked}
use Rattle.report.specs.Report.{rows_text, carried_text, state_text, status_text, blocks_text}
use Rattle.bench.specs.Bench.{call_with, asking, buffer_after, kind_of, came_line, where_accepted}
use Rattle.bench.specs.Trace.{kind_text, given_text, traced_text}

none : (a : Answer) → where_accepted a [] ≡ []
unfolding where_accepted
none Answered.Accepted = refl
none (Answered.Refused e) = refl
none Answered.ScriptEnded = refl
none Answered.TraceFull = refl
none Answered.BadBook = refl

-- with one buffer before the call, and one after it
pub gave : (l : List Row) (lent : List ℕ) (c : L.Call) (x : Came) (buffer : List ℕ)
    → where_accepted x.answer (kind_text c.kind x.host (length lent / 512) buffer) ≡ given_text (call_with l lent c) x buffer
unfolding given_text
gave l lent c x buffer = by (eqb c.kind 1) (eqb c.kind 2) (eqb c.kind 4)
  where
    by : (one two four : Bool)
        → where_accepted x.answer (cond one [] (cond two (blocks_text (length lent / 512) buffer) (cond four [] (status_text x.host.card.status))))
        ≡ given_text (cond one (S.initialise c.a c.script l) (cond two (S.read c.a (length lent) c.script l) (cond four (S.write c.a (blocks_filled c.«data» lent) c.script l) (S.status c.script l)))) x buffer
    by true two four = none x.answer
    by false true four = refl
    by false false true = none x.answer
    by false false false = refl

-- the line of a call that came to this: of its kind only whether that is 1 is told
of-kind : (l : List Row) (lent : List ℕ) (c : L.Call) → eqb c.kind 1 ≡ eqb (kind_of (call_with l lent c)) 1
unfolding kind_of
of-kind l lent c = by (eqb c.kind 1) (eqb c.kind 2) (eqb c.kind 4)
  where
    by : (one two four : Bool)
        → one ≡ eqb (kind_of (cond one (S.initialise c.a c.script l) (cond two (S.read c.a (length lent) c.script l) (cond four (S.write c.a (blocks_filled c.«data» lent) c.script l) (S.status c.script l))))) 1
    by true two four = refl
    by false true four = refl
    by false false true = refl
    by false false false = refl

by_test : (number m n : ℕ) (c : Called) → eqb m 1 ≡ eqb n 1 → call_line number m c.answer c.words c.rows c.host.card.protection ≡ call_line number n c.answer c.words c.rows c.host.card.protection
by_test number m n c e = rw e

pub its_line : (number : ℕ) (l : List Row) (lent : List ℕ) (c : L.Call) (x : Came) {called : Called} → called ≡ called_of x
    → call_line number c.kind called.answer called.words called.rows called.host.card.protection ≡ came_line number (call_with l lent c) x
its_line number l lent c x e = rw e (by_test number c.kind (kind_of (call_with l lent c)) (called_of x) (of-kind l lent c))

-- the pen that wrote it
pub line_written : (number : ℕ) (l : List Row) (lent : List ℕ) (c : L.Call) (x : Came) (pen : Pen) {called : Called} {after : Pen} → called ≡ called_of x
    → after ≡ written (call_line number c.kind called.answer called.words called.rows called.host.card.protection) pen
    → after ≡ written (came_line number (call_with l lent c) x) pen
line_written number l lent c x pen e p = p ∙ ap (λ (t : List ℕ). written t pen) (its_line number l lent c x e)

-- what is printed of a call, put together from what it came to
module _ (number : ℕ) (host : Sdmmc) (l : List Row) (buffer ws : List ℕ) (asked : Asked) where
  abbrev call : S.Call
  call = asking l buffer ws asked

  pub traced : {called : Called} {l' : List Row} {buffer' : List ℕ} → called ≡ called_of (comes host call) → l' ≡ (comes host call).list → buffer' ≡ buffer_after call (comes host call) buffer
      → call_line number asked.kind called.answer called.words called.rows called.host.card.protection
      ++ (rows_text called.rows l' ++ carried_text called.answer ++ state_text called.host)
      ++ where_accepted called.answer (kind_text asked.kind called.host (length buffer / 512) buffer') ≡ traced_text number host l buffer ws asked
  traced {l' = l'} {buffer' = buffer'} ec el eb =
      let c = call_asked ws asked in
      let x = comes host call in
      let given : where_accepted x.answer (kind_text c.kind x.host (length buffer / 512) buffer') ≡ given_text (call_with l buffer c) x (buffer_after call x buffer) =
      rw eb (gave l buffer c x (buffer_after call x buffer)) in
      rw (its_line number l buffer c x ec, ec, el, given) refl
