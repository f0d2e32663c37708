-- A call that is fed from a script, on its way: what it comes to from there on is what it comes to from its start. Every turn is
-- one fewer of those that it takes, so that feeding ends.
use Rattle.std.specs.Prelude.{Some, None}
use Prim.Native.Nat.{ℕ, suc, ◌+◌, ◌<◌, ◌≤◌}
use mathlib.Core.Path.{◌≡◌, refl, ap, sym, ◌∙◌}
use mathlib.Core.Bool.{Bool, true, false, cond, not}
use mathlib.Core.List.{List, []}
use native.Mathlib.Omega.{arith}
use lib.Dec.{ltb}
use lib.ListN.{length, get_or, length-set, set}
use borrow.Author.Tests.{lt-ltb, le-ltb, ltb-true, ltb-false}
use Rattle.types.specs.declared.error.Answer.{Answer}
use Rattle.types.specs.declared.error.Answer.TheVariants as Answered
use Rattle.tape.specs.declared.progress.Line.{Line}
use Rattle.tape.specs.declared.rows.Row.{Row}
use Rattle.tape.specs.declared.script.Reading.{Reading}
use Rattle.tape.specs.Plan.{Plan, failed, ended}
use Rattle.tape.specs.Run.{After, run}
use Rattle.host.specs.declared.host.Called.{Called}
use Rattle.host.specs.declared.host.Sdmmc.{Sdmmc}
use Rattle.host.specs.Calls.{Came, called_of}
use Rattle.step.specs.declared.wants.Wants.{Wants}
use Rattle.step.specs.declared.wants.Wants.TheVariants as W
use Rattle.step.specs.Next.{Next, asks, tells, over, refused, next, want_of, Lent, handed, HandedBy}
use Rattle.step.proofs.Words.{is-handed}
use Rattle.stepping.specs.Closing.{Closing}
use Rattle.underway.specs.declared.call.Call.{Call}
use Rattle.underway.specs.declared.call.Closed.{Closed}
use Rattle.underway.specs.Under.{Under, under, answered, unanswered, written, closed_of}
use Rattle.feed.specs.Runs.{run_next, came_by, came_of, no_closing, lies_at, place_run, place_next, next_span}
use Rattle.feed.specs.Turns.{Way, starts, lent, way_of, Turned, turned, turn_by, turn_of, fed_from, place_from, taken_at, handed_at, turned_of, goes_on, called_with, called_at}
use Rattle.feed.specs.declared.turn.Event.TheVariants as E
use Rattle.feed.specs.declared.turn.Feeding.{Feeding}
use Rattle.feed.specs.declared.turn.Turn.{Turn}
use Rattle.feed.proofs.Drive.{run-next, run-heard, run-told, run-missed, run-full, place-next, place-heard, place-told, place-missed, place-full, heard-span, missed-span, told-span}
use Rattle.feed.proofs.Even.{at-even}

not-both : {b : Bool} → b ≡ true → b ≡ false → ⊥
not-both t f = let z : ◌≡◌ {A = ℕ} 0 1 = cc in omega arith

pub turned_false : (b : Bool) → not b ≡ true → b ≡ false
turned_false true e = absurd (not-both e refl)
turned_false false e = refl

pub turned_true : (b : Bool) → not b ≡ false → b ≡ true
turned_true true e = refl
turned_true false e = absurd (not-both refl e)

-- what a call has come to, over or not
module _ (w : Way) (c : Closed) (is : c ≡ closed_of w.call) where
  all : called_with w c.host c.outcome ≡ called_at w
  all = ap (λ (x : Closed). called_with w x.host x.outcome) is

  pub over-called : (answer : Answer) → c.outcome ≡ Some answer → record { answer = answer; words = w.used; rows = w.rows; host = c.host } ≡ called_at w
  unfolding called_with
  over-called answer e = rw e at all

  pub full-called : c.outcome ≡ None → record { answer = Answered.TraceFull; words = w.used; rows = w.rows; host = w.call.before } ≡ called_at w
  unfolding called_with
  full-called e = rw e at all

-- as many turns are left whatever data words were handed out
even : (s : List ℕ) (m : Call) (sent taken taken' : List ℕ) (u : ℕ) → next_span s (under (lent sent taken) m).ahead u ≡ next_span s (under (lent sent taken') m).ahead u
even s m sent taken taken' u = at-even s m.job sent taken taken' m.known m.held m.at u m.line

module _ (s : List ℕ) where
  -- a reading that takes its word; and below, a row that is written
  pub read-turn : (f : Feeding) (g : Lent) (l : List Row) (r : Reading) (call : Call) (place : ℕ) → f.used < length s
      → W.Read r ≡ want_of (under g f.call).ahead
      → ((g g' : Lent) → HandedBy (want_of (under g f.call).ahead) (get_or s f.used 0) g g' → under g' call ≡ answered (under g f.call) (get_or s f.used 0))
      → place ≡ lies_at r f.used f.place
      → turned_of g (record { event = E.Read r (get_or s f.used 0); feeding = record { call = call; used = f.used + 1; rows = f.rows; place = place } }) l
      ≡ turn_by s (way_of g f) l (W.Read r)
  unfolding turn_by taken_at HandedBy
  read-turn f g l r call place within asked goes is =
      let w = get_or s f.used 0 in
      let hand : HandedBy (want_of (under g f.call).ahead) w g (handed r w g) = rw (← asked) (is-handed r w g) in
      rw (lt-ltb _ _ within)
      (λ i. turned (E.Read r w) (record { call = goes g (handed r w g) hand i; used = f.used + 1; rows = f.rows; place = is i }) l)

  -- one that finds none
  pub missed-turn : (f : Feeding) (g : Lent) (l : List Row) (r : Reading) (call : Call) → length s ≤ f.used
      → ((g : Lent) → under g call ≡ unanswered (under g f.call))
      → turned_of g (record { event = E.Missed r; feeding = record { call = call; used = f.used; rows = f.rows; place = f.place } }) l
      ≡ turn_by s (way_of g f) l (W.Read r)
  unfolding turn_by taken_at
  missed-turn f g l r call none goes =
      rw (le-ltb _ _ none) (λ i. turned (E.Missed r) (record { call = goes g i; used = f.used; rows = f.rows; place = f.place }) l)

  pub row-turn : (f : Feeding) (g : Lent) (l : List Row) (r : Row) (call : Call) → f.rows < length l
      → ((g : Lent) → under g call ≡ written (under g f.call))
      → turned_of g (record { event = E.Wrote r; feeding = record { call = call; used = f.used; rows = f.rows + 1; place = f.place } }) (set l f.rows r)
      ≡ turn_by s (way_of g f) l (W.Write r)
  unfolding turn_by taken_at
  row-turn f g l r call room goes =
      rw (lt-ltb _ _ room)
      (λ i. turned (E.Wrote r) (record { call = goes g i; used = f.used; rows = f.rows + 1; place = f.place }) (set l f.rows r))

  -- a turn is the one that is waited for
  pub as_wanted : (w : Way) (l : List Row) (x : Wants) (t : Turned) → x ≡ want_of w.call.ahead → t ≡ turn_by s w l x → t ≡ turn_of s w l
  as_wanted w l x t e is = is ∙ ap (turn_by s w l) e

  module _ (b : Sdmmc) (u n q : ℕ) (l : List Row) where
    abbrev at : Next Closing → Way
    at x = record { call = record { before = b; ahead = x }; used = u; rows = n; place = q }

    -- a turn after which another follows
    record Goes (t : Turned) (x : Next Closing) : Type 0 where
      fed : fed_from s t.next t.list ≡ fed_from s (at x) l
      place : place_from s t.next t.list ≡ place_from s (at x) l
      long : length t.list ≡ length l
      fewer : next_span s x u ≡ suc (next_span s t.next.call.ahead t.next.used)

    -- and one after which none does
    record Ends (t : Turned) (x : Next Closing) : Type 0 where
      called : called_at t.next ≡ called_of (fed_from s (at x) l)
      list : t.list ≡ (fed_from s (at x) l).list
      place : t.next.place ≡ place_from s (at x) l

    module _ (h : Line) (r : Reading) (k : ℕ → Plan Closing) (z : Plan Closing) where
      abbrev took : Turned
      took =
          turned (E.Read r (get_or s u 0))
          (record { call = answered (at (asks h r k z)).call (get_or s u 0); used = u + 1; rows = n; place = lies_at r u q }) l

      abbrev missed : Turned
      missed = turned (E.Missed r) (record { call = unanswered (at (asks h r k z)).call; used = u; rows = n; place = q }) l

      asks-goes : (t : Bool) → ltb u (length s) ≡ t → Goes (cond t took missed) (asks h r k z)
      asks-goes true within =
          let some = ltb-true u (length s) within in
          record {
            fed = ap (came_of b) (sym (run-heard s (no_closing b) h r k z u n l some));
            place = sym (place-heard s h r k z q u n l some);
            long = refl;
            fewer = heard-span s h r k z u some;
          }
      asks-goes false within =
          let none = ltb-false u (length s) within in
          record {
            fed = ap (came_of b) (sym (run-missed s (no_closing b) h r k z u n l none));
            place = sym (place-missed s h r k z q u n l none);
            long = refl;
            fewer = missed-span s h r k z u none;
          }

      asks-on : (t : Bool) → goes_on (cond t took missed).event ≡ true
      unfolding goes_on
      asks-on true = refl
      asks-on false = refl

    module _ (h : Line) (r : Row) (p : Plan Closing) where
      abbrev wrote : Turned
      wrote =
          turned (E.Wrote r) (record { call = written (at (tells h r p)).call; used = u; rows = n + 1; place = q }) (set l n r)

      abbrev full : Turned
      full = turned (E.Full r) (at (tells h r p)) l

      tells-goes : (t : Bool) → ltb n (length l) ≡ t → goes_on (cond t wrote full).event ≡ true → Goes (cond t wrote full) (tells h r p)
      unfolding goes_on
      tells-goes true within e =
          let room = ltb-true n (length l) within in
          record {
            fed = ap (came_of b) (sym (run-told s (no_closing b) h r p u n l room));
            place = sym (place-told s h r p q u n l room);
            long = simp length-set refl;
            fewer = told-span s h r p u;
          }
      tells-goes false within e = absurd (not-both e refl)

      tells-ends : (t : Bool) → ltb n (length l) ≡ t → goes_on (cond t wrote full).event ≡ false → Ends (cond t wrote full) (tells h r p)
      unfolding goes_on called_with closed_of came_by
      tells-ends true within e = absurd (not-both refl e)
      tells-ends false within e =
          let none = ltb-false n (length l) within in
          let stops = run-full s (no_closing b) h r p u n l none in
          record {
            called = ap (λ (x : After Closing). called_of (came_of b x)) (sym stops);
            list = ap (λ (x : After Closing). (came_of b x).list) (sym stops);
            place = sym (place-full s h r p q u n l none);
          }

    goes : (x : Next Closing) → goes_on (turn_of s (at x) l).event ≡ true → Goes (turn_of s (at x) l) x
    unfolding turn_by want_of goes_on
    goes (asks h r k z) e = asks-goes h r k z (ltb u (length s)) refl
    goes (tells h r p) e = tells-goes h r p (ltb n (length l)) refl e
    goes (over h a) e = absurd (not-both e refl)
    goes (refused h c) e = absurd (not-both e refl)

    ends : (x : Next Closing) → goes_on (turn_of s (at x) l).event ≡ false → Ends (turn_of s (at x) l) x
    unfolding turn_by want_of run_next place_next came_by called_with closed_of
    ends (asks h r k z) e = absurd (not-both (asks-on h r k z (ltb u (length s))) e)
    ends (tells h r p) e = tells-ends h r p (ltb n (length l)) refl e
    ends (over h a) e = record { called = refl; list = refl; place = refl }
    ends (refused h (failed x)) e = record { called = refl; list = refl; place = refl }
    ends (refused h ended) e = record { called = refl; list = refl; place = refl }

  -- the same of any way: a turn that another follows keeps what the call comes to, and the last one tells it
  pub turn-keeps : (w : Way) (l : List Row) → goes_on (turn_of s w l).event ≡ true
      → fed_from s (turn_of s w l).next (turn_of s w l).list ≡ fed_from s w l
  turn-keeps w l e = (goes w.call.before w.used w.rows w.place l w.call.ahead e).fed

  -- and leaves one turn fewer
  pub turn-fewer : (w : Way) (l : List Row) → goes_on (turn_of s w l).event ≡ true
      → next_span s w.call.ahead w.used ≡ suc (next_span s (turn_of s w l).next.call.ahead (turn_of s w l).next.used)
  turn-fewer w l e = (goes w.call.before w.used w.rows w.place l w.call.ahead e).fewer

  pub turn-left : (f : Feeding) (t : Turn) (sent taken : List ℕ) (l l' : List Row)
      → turned_of (lent sent taken) t l' ≡ turn_of s (way_of (lent sent taken) f) l → goes_on t.event ≡ true
      → next_span s (under (lent sent []) f.call).ahead f.used ≡ suc (next_span s (under (lent sent []) t.feeding.call).ahead t.feeding.used)
  turn-left f t sent taken l l' is e =
      even s f.call sent [] taken f.used
      ∙ turn-fewer (way_of (lent sent taken) f) l (sym (ap (λ (t : Turned). goes_on t.event) is) ∙ e)
      ∙ ap (λ (t : Turned). suc (next_span s t.next.call.ahead t.next.used)) (sym is)
      ∙ ap suc (even s t.feeding.call sent (taken_at t.event taken) [] t.feeding.used)

  pub turn-closes : (w : Way) (l : List Row) → goes_on (turn_of s w l).event ≡ false
      → called_at (turn_of s w l).next ≡ called_of (fed_from s w l)
  turn-closes w l e = (ends w.call.before w.used w.rows w.place l w.call.ahead e).called

  -- on its way from w₀, with the list l₀: `sent` are its words to send, and `taken` the data words handed out so far
  pub record On (sent : List ℕ) (w₀ : Way) (l₀ : List Row) (f : Feeding) (l : List Row) : Type 0 where
    pub taken : List ℕ
    pub fed : fed_from s (way_of (lent sent taken) f) l ≡ fed_from s w₀ l₀
    pub place : place_from s (way_of (lent sent taken) f) l ≡ place_from s w₀ l₀
    pub long : length l ≡ length l₀

  pub begun : (sent : List ℕ) (f : Feeding) (l : List Row) → On sent (way_of (lent sent []) f) l f l
  begun sent f l = record { taken = []; fed = refl; place = refl; long = refl }

  module _ {sent : List ℕ} {w₀ : Way} {l₀ : List Row} {f : Feeding} {l : List Row} (on : On sent w₀ l₀ f l) (t : Turn) (l' : List Row)
      (is : (taken : List ℕ) → turned_of (lent sent taken) t l' ≡ turn_of s (way_of (lent sent taken) f) l) where
    abbrev out : Lent
    out = lent sent on.taken

    abbrev there : Turned
    there = turn_of s (way_of out f) l

    event-is : t.event ≡ there.event
    event-is = ap (λ (t : Turned). t.event) (is on.taken)

    going : goes_on t.event ≡ true → Goes (under out f.call).before f.used f.rows f.place l there (under out f.call).ahead
    going e =
        goes (under out f.call).before f.used f.rows f.place l (under out f.call).ahead
        (sym (ap goes_on event-is) ∙ e)

    pub goes-on : goes_on t.event ≡ true → On sent w₀ l₀ t.feeding l'
    goes-on e =
        record {
          taken = taken_at t.event on.taken;
          fed = ap (λ (t : Turned). fed_from s t.next t.list) (is on.taken) ∙ (going e).fed ∙ on.fed;
          place = ap (λ (t : Turned). place_from s t.next t.list) (is on.taken) ∙ (going e).place ∙ on.place;
          long = ap (λ (t : Turned). length t.list) (is on.taken) ∙ (going e).long ∙ on.long;
        }

    pub goes-less : goes_on t.event ≡ true
        → next_span s (under (lent sent []) t.feeding.call).ahead t.feeding.used < next_span s (under (lent sent []) f.call).ahead f.used
    goes-less e = omega (arith, turn-left f t sent on.taken l l' (is on.taken) e)

    pub ends_there : goes_on t.event ≡ false → (r : Called) → ((g : Lent) → r ≡ called_at (way_of g t.feeding))
        → (r ≡ called_of (fed_from s w₀ l₀)) × (l' ≡ (fed_from s w₀ l₀).list) × (t.feeding.place ≡ place_from s w₀ l₀)
    ends_there e r is-called =
        let last =
        ends (under out f.call).before f.used f.rows f.place l (under out f.call).ahead
        (sym (ap goes_on event-is) ∙ e) in (
          is-called (handed_at t.event out) ∙ ap (λ (t : Turned). called_at t.next) (is on.taken) ∙ last.called ∙ ap called_of on.fed,
          ap (λ (t : Turned). t.list) (is on.taken) ∙ last.list ∙ ap (λ (x : Came). x.list) on.fed,
          ap (λ (t : Turned). t.next.place) (is on.taken) ∙ last.place ∙ on.place,
        )

  -- from its start, a call that begins as a plan comes to what the plan does
  module _ (u : Under) (host : Sdmmc) (p : Plan Closing) (l : List Row) (begins : u ≡ record { before = host; ahead = next p host.line }) where
    pub fed-whole : fed_from s (starts u) l ≡ came_of host (run s (no_closing host) p 0 0 host.line l)
    fed-whole =
        ap (λ (u : Under). fed_from s (starts u) l) begins ∙ ap (came_of host) (run-next s (no_closing host) p 0 0 host.line l)

    pub place-whole : place_from s (starts u) l ≡ place_run s p 0 0 0 host.line l
    place-whole = ap (λ (u : Under). place_from s (starts u) l) begins ∙ place-next s p 0 0 0 host.line l
