-- A call taken one answer at a time from a script comes to what the call on that script does, whoever takes it; the data words
-- handed out, each at its place, are those of an accepted read.
use Rattle.std.specs.Prelude.{Some, None}
use Prim.Native.Nat.{ℕ, zero, suc, ◌+◌, ◌*◌, ◌/◌, ◌<◌, ◌≤◌}
use mathlib.Core.Path.{◌≡◌, refl, ap, sym, ◌∙◌}
use mathlib.Core.List.{List, [], ◌∷◌}
use native.Mathlib.Omega.{arith}
use native.Mathlib.Decide.{dec_lt}
use lib.ListN.{length, get_or, take, length-take, set}
use Rattle.types.specs.declared.error.Answer.{Answer}
use Rattle.types.specs.declared.error.Answer.TheVariants as Answered
use Rattle.types.specs.Words.{bytes_of, words_of}
use Rattle.tape.specs.declared.rows.Row.{Row}
use Rattle.tape.specs.declared.script.Reading.{Reading}
use Rattle.tape.specs.Plan.{failed, ended}
use Rattle.tape.specs.Run.{After}
use Rattle.bus.specs.Transfer.{incoming, outgoing}
use Rattle.host.specs.declared.host.Called.{Called}
use Rattle.host.specs.declared.host.Sdmmc.{Sdmmc}
use Rattle.host.specs.Calls.{Came, called_of, read_came, blocks_filled, buffer_of}
use Rattle.host.proofs.Laying.{none_filled}
use Rattle.refusals.proofs.Whole.{read_exact, read-filled}
use Rattle.calls.specs.Serve as S
use Rattle.calls.specs.Serve.{comes}
use Rattle.step.specs.declared.wants.Wants.{Wants}
use Rattle.step.specs.declared.wants.Wants.TheVariants as W
use Rattle.step.specs.Next.{Next, asks, tells, over, refused, next, want_of, heard, told, missed, Lent}
use Rattle.step.specs.Transfer.{blocks_of, transfer_of, words_by, sends_of, taken_by, all_of}
use Rattle.stepping.specs.Ahead.{phase_by, phase_of, end_plan, at_plan}
use Rattle.stepping.specs.Closing.{Closing, keeping, dropping, finding, accepting}
use Rattle.stepping.specs.declared.call.Asked.{Asked}
use Rattle.stepping.specs.declared.call.Asked.TheVariants as Q
use Rattle.stepping.specs.declared.call.At.{At}
use Rattle.stepping.specs.declared.call.At.TheVariants as A
use Rattle.stepping.specs.declared.call.End.TheVariants as Z
use Rattle.underway.specs.declared.call.Call.{Call}
use Rattle.underway.specs.declared.call.Closed.{Closed}
use Rattle.underway.specs.Under.{Under, under, ends_at, closed_of}
use Rattle.underway.proofs.Ending.{closed-under}
use Rattle.feed.specs.Runs.{run_next, came_by, came_of, no_closing, next_span}
use Rattle.feed.specs.Turns.{starts, fed_from}
use Rattle.feed.specs.Stepped.{Midway, Turn, hears, misses, writes, Turns, still, more, Left, closed, full, plan_by, script_by, list_by, Stepped}
use Rattle.feed.proofs.Drive.{run-heard, run-told, run-missed, run-full, heard-span, missed-span, told-span}
use Rattle.feed.proofs.Fed.{fed-whole}
use Rattle.feed.proofs.Order.{read_none}
use Rattle.feed.proofs.Whole.{init-call, blocks-call, status-call}

abbrev row_in : Wants → Row
row_in (W.Write r) = r
row_in (W.Read r) = record { register = 0; value = 0 }
row_in (W.Send k) = record { register = 0; value = 0 }
row_in W.Nothing = record { register = 0; value = 0 }

module _ (s : List ℕ) where
  -- what a call comes to from there on
  abbrev comes_to : Under → ℕ → ℕ → List Row → Came
  comes_to u used n l = came_of u.before (run_next s (no_closing u.before) u.ahead used n l)

  module _ (host : Sdmmc) (u n : ℕ) (l : List Row) where
    abbrev at : Next Closing → Under
    at x = record { before = host; ahead = x }

    heard-same : (x : Next Closing) (r : Reading) → W.Read r ≡ want_of x → u < length s
        → comes_to (at (heard x (get_or s u 0))) (u + 1) n l ≡ comes_to (at x) u n l
    unfolding want_of
    heard-same (asks h r k z) q e within = ap (came_of host) (sym (run-heard s (no_closing host) h r k z u n l within))
    heard-same (tells h r p) q e within = cc
    heard-same (over h a) q e within = cc
    heard-same (refused h c) q e within = cc

    missed-same : (x : Next Closing) (r : Reading) → W.Read r ≡ want_of x → length s ≤ u → comes_to (at (missed x)) u n l ≡ comes_to (at x) u n l
    unfolding want_of
    missed-same (asks h r k z) q e none = ap (came_of host) (sym (run-missed s (no_closing host) h r k z u n l none))
    missed-same (tells h r p) q e none = cc
    missed-same (over h a) q e none = cc
    missed-same (refused h c) q e none = cc

    told_same : (x : Next Closing) (r : Row) → W.Write r ≡ want_of x → n < length l
        → comes_to (at (told x)) u (n + 1) (set l n r) ≡ comes_to (at x) u n l
    unfolding want_of
    told_same (asks h r k z) q e room = cc
    told_same (tells h r p) q e room =
        ap (λ (q : Row). comes_to (at (told (tells h r p))) u (n + 1) (set l n q)) (ap row_in e)
        ∙ ap (came_of host) (sym (run-told s (no_closing host) h r p u n l room))
    told_same (over h a) q e room = cc
    told_same (refused h c) q e room = cc

    -- where it is left
    abbrev Comes : Called → Next Closing → Type 0
    Comes r x = (r ≡ called_of (comes_to (at x) u n l)) × (l ≡ (comes_to (at x) u n l).list)

    closed-comes : (x : Next Closing) (answer : Answer) → (closed_of (at x)).outcome ≡ Some answer
        → Comes (record { answer = answer; words = u; rows = n; host = (closed_of (at x)).host }) x
    unfolding run_next closed_of came_by
    closed-comes (asks h r k z) answer e = (cc, cc)
    closed-comes (tells h r p) answer e = (cc, cc)
    closed-comes (over h a) answer e = let same : answer ≡ a.answer = cc in (rw same, refl)
    closed-comes (refused h (failed c)) answer e = let same : answer ≡ Answered.Refused c = cc in (rw same, refl)
    closed-comes (refused h ended) answer e = let same : answer ≡ Answered.ScriptEnded = cc in (rw same, refl)

    full-comes : (x : Next Closing) (r : Row) → W.Write r ≡ want_of x → length l ≤ n
        → Comes (record { answer = Answered.TraceFull; words = u; rows = n; host = host }) x
    unfolding want_of came_by
    full-comes (asks h r k z) q e dry = (cc, cc)
    full-comes (tells h r p) q e dry =
        let stops = sym (run-full s (no_closing host) h r p u n l dry) in
        (ap (λ (x : After Closing). called_of (came_of host x)) stops, ap (λ (x : After Closing). (came_of host x).list) stops)
    full-comes (over h a) q e dry = (cc, cc)
    full-comes (refused h c) q e dry = (cc, cc)

  abbrev comes_from : Midway → Came
  comes_from x = comes_to (under x.out x.call) x.used x.rows x.list

  turn-same : {x y : Midway} → Turn s x y → comes_from y ≡ comes_from x
  turn-same (hears {m = m} {g = g} {u = u} {n = n} {l = l} r e within hand goes) =
      ap (λ (v : Under). comes_to v (u + 1) n l) goes ∙ heard-same (under g m).before u n l (under g m).ahead r e within
  turn-same (misses {m = m} {g = g} {u = u} {n = n} {l = l} r e none goes) =
      ap (λ (v : Under). comes_to v u n l) goes ∙ missed-same (under g m).before u n l (under g m).ahead r e none
  turn-same (writes {m = m} {g = g} {u = u} {n = n} {l = l} r e room goes) =
      ap (λ (v : Under). comes_to v u (n + 1) (set l n r)) goes ∙ told_same (under g m).before u n l (under g m).ahead r e room

  -- each answer is one turn less of what is ahead
  abbrev turns_left : Midway → ℕ
  turns_left x = next_span s (under x.out x.call).ahead x.used

  heard-fewer : (x : Next Closing) (r : Reading) (u : ℕ) → W.Read r ≡ want_of x → u < length s → next_span s x u ≡ suc (next_span s (heard x (get_or s u 0)) (u + 1))
  unfolding want_of
  heard-fewer (asks h r k z) q u e within = heard-span s h r k z u within
  heard-fewer (tells h r p) q u e within = cc
  heard-fewer (over h a) q u e within = cc
  heard-fewer (refused h c) q u e within = cc

  missed-fewer : (x : Next Closing) (r : Reading) (u : ℕ) → W.Read r ≡ want_of x → length s ≤ u → next_span s x u ≡ suc (next_span s (missed x) u)
  unfolding want_of
  missed-fewer (asks h r k z) q u e none = missed-span s h r k z u none
  missed-fewer (tells h r p) q u e none = cc
  missed-fewer (over h a) q u e none = cc
  missed-fewer (refused h c) q u e none = cc

  told-fewer : (x : Next Closing) (r : Row) (u : ℕ) → W.Write r ≡ want_of x → next_span s x u ≡ suc (next_span s (told x) u)
  unfolding want_of
  told-fewer (asks h r k z) q u e = cc
  told-fewer (tells h r p) q u e = told-span s h r p u
  told-fewer (over h a) q u e = cc
  told-fewer (refused h c) q u e = cc

  pub turn-fewer : {x y : Midway} → Turn s x y → turns_left x ≡ suc (turns_left y)
  turn-fewer (hears {m = m} {g = g} {u = u} r e within hand goes) =
      heard-fewer (under g m).ahead r u e within ∙ ap (λ (v : Under). suc (next_span s v.ahead (u + 1))) (sym goes)
  turn-fewer (misses {m = m} {g = g} {u = u} r e none goes) =
      missed-fewer (under g m).ahead r u e none ∙ ap (λ (v : Under). suc (next_span s v.ahead u)) (sym goes)
  turn-fewer (writes {m = m} {g = g} {u = u} r e room goes) =
      told-fewer (under g m).ahead r u e ∙ ap (λ (v : Under). suc (next_span s v.ahead u)) (sym goes)

  turns_same : {x y : Midway} → Turns s x y → comes_from y ≡ comes_from x
  turns_same still = refl
  turns_same (more t ts) = turns_same ts ∙ turn-same t

  left-comes : {x : Midway} {r : Called} → Left s x r → (r ≡ called_of (comes_from x)) × (x.list ≡ (comes_from x).list)
  left-comes (closed {m = m} {g = g} {u = u} {n = n} {l = l} answer e) = closed-comes (under g m).before u n l (under g m).ahead answer e
  left-comes (full {m = m} {g = g} {u = u} {n = n} {l = l} r e dry) = full-comes (under g m).before u n l (under g m).ahead r e dry

-- THE THEOREM. The answer, the words used, the rows written, the next host and the list are those of the call on the script.

plan_comes : (host : Sdmmc) (c : S.Call) (u : Under) → u ≡ record { before = host; ahead = next (plan_by host c) host.line }
    → fed_from (script_by c) (starts u) (list_by c) ≡ comes host c
unfolding plan_by script_by list_by comes
plan_comes host (S.initialise frequency s l) u e = fed-whole s u host _ l e ∙ sym (init-call host s l frequency)
plan_comes host (S.read index bytes s l) u e = fed-whole s u host _ l e ∙ sym (blocks-call host s l incoming index bytes)
plan_comes host (S.write index bytes s l) u e = fed-whole s u host _ l e ∙ sym (blocks-call host s l (outgoing (words_of bytes)) index (length bytes))
plan_comes host (S.status s l) u e = fed-whole s u host _ l e ∙ sym (status-call host s l)

module _ {host : Sdmmc} {c : S.Call} {r : Called} {last : Midway} (x : Stepped host c r last) where
  same : comes_from (script_by c) last ≡ comes host c
  same = turns_same (script_by c) x.turns ∙ plan_comes host c (under x.out x.first) x.begun

  pub stepped-comes : (r ≡ called_of (comes host c)) × (last.list ≡ (comes host c).list)
  stepped-comes =
      let there = left-comes (script_by c) x.left in
      (there.0 ∙ ap called_of same, there.1 ∙ ap (λ (y : Came). y.list) same)

-- The data words handed out, each at its place, are those of an accepted read; no others are asked for.

abbrev answer_kind : Answer → ℕ
answer_kind Answered.Accepted = 0
answer_kind (Answered.Refused e) = 1
answer_kind Answered.ScriptEnded = 2
answer_kind Answered.TraceFull = 3
answer_kind Answered.BadBook = 4

other-answer : {a b : Answer} (k : ℕ) → answer_kind b ≡ suc k → b ≡ a → a ≡ Answered.Accepted → ⊥
other-answer k other is accepted = let z = sym (ap answer_kind (is ∙ accepted)) ∙ other in omega arith

own-length : (n : ℕ) (l : List ℕ) → take n l ≡ take (length (take n l)) l
own-length zero l = refl
own-length (suc n) [] = refl
own-length (suc n) (x ∷ l) = ap (λ (r : List ℕ). x ∷ r) (own-length n l)

no_words : (l : List ℕ) → length l ≡ 0 → l ≡ []
no_words [] e = refl
no_words (x ∷ l) e = absurd (omega arith)

-- the words of a call that is over
unfoldable taken_in : Next Closing → List ℕ
taken_in (asks h r k z) = []
taken_in (tells h r p) = []
taken_in (over h a) = a.taken
taken_in (refused h c) = []

module _ (m : Call) (g : Lent) where
  abbrev Handing : List ℕ → Type 0
  Handing ws = 16 < length ws → ws ≡ take (length ws) g.taken

  few : (n : ℕ) (l : List ℕ) → n ≤ 16 → Handing (take n l)
  few n l small many = absurd (omega (arith, length-take n l))

  by-asked : (q : Asked) → Handing (all_of (phase_by q) (words_by (phase_by q) m.held g))
  unfolding transfer_of sends_of phase_by taken_by
  by-asked (Q.Card c f) = few 16 m.held (omega arith)
  by-asked Q.Status = few 16 m.held (omega arith)
  by-asked (Q.Blocks a n) = λ many. own-length (128 * blocks_of n) g.taken
  by-asked (Q.Sends a n) = λ many. absurd (omega arith)

  -- a call keeps sixteen words at most: more are those that were handed out
  over-handed : (closed_of (under g m)).outcome ≡ Some Answered.Accepted → Handing (taken_in (under g m).ahead)
  unfolding ends_at at_plan end_plan phase_of phase_by next accepting finding keeping dropping taken_in
  over-handed ok = by m.at refl
    where
      waiting : ends_at m.at ≡ None → ⊥
      waiting e = let over : None ≡ Some Answered.Accepted = ap (λ (c : Closed). c.outcome) (closed-under m g e) ∙ ok in let z : ◌≡◌ {A = ℕ} 0 1 = cc in omega arith

      by : (p : At) → m.at ≡ p → Handing (taken_in (next (at_plan m.job m.known m.held g p) m.line))
      by (A.Command s c) e = absurd (waiting (rw e))
      by (A.Ready t r) e = absurd (waiting (rw e))
      by (A.Data gets d) e = absurd (waiting (rw e))
      by (A.Idle c n) e = absurd (waiting (rw e))
      by (A.Tells t) e = absurd (waiting (rw e))
      by (A.Over Z.Accepted) e = by-asked m.job.asked
      by (A.Over Z.Found) e = λ many. absurd (omega arith)
      by (A.Over (Z.Keeping x)) e = λ many. absurd (omega arith)
      by (A.Over (Z.Dropping x)) e = λ many. absurd (omega arith)

module _ (s : List ℕ) where
  taken-closed : (host : Sdmmc) (u n : ℕ) (l : List Row) (x : Next Closing) (answer : Answer)
      → (closed_of (record { before = host; ahead = x })).outcome ≡ Some answer → (comes_to s (record { before = host; ahead = x }) u n l).taken ≡ taken_in x
  unfolding closed_of run_next came_by taken_in
  taken-closed host u n l (asks h r k z) answer e = cc
  taken-closed host u n l (tells h r p) answer e = cc
  taken-closed host u n l (over h a) answer e = refl
  taken-closed host u n l (refused h (failed c)) answer e = refl
  taken-closed host u n l (refused h ended) answer e = refl

  left-handed : {x : Midway} {r : Called} → Left s x r → r.answer ≡ Answered.Accepted → Handing x.call x.out (comes_from s x).taken
  left-handed (closed {m = m} {g = g} {u = u} {n = n} {l = l} answer e) ok =
      rw (taken-closed (under g m).before u n l (under g m).ahead answer e) (over-handed m g (e ∙ ap Some ok))
  left-handed (full r e dry) ok = absurd (other-answer 2 refl refl ok)

module _ {host : Sdmmc} {index bytes : ℕ} {s : List ℕ} {l : List Row} {r : Called} {last : Midway} (x : Stepped host (S.read index bytes s l) r last) where
  pub stepped-words : r.answer ≡ Answered.Accepted → (read_came host index bytes s l).taken ≡ take (128 * (bytes / 512)) last.out.taken
  unfolding script_by comes
  stepped-words ok =
      let ws = (read_came host index bytes s l).taken in
      let came : (read_came host index bytes s l).answer ≡ Answered.Accepted = sym (ap (λ (r : Called). r.answer) (stepped-comes x).0) ∙ ok in
      let long : length ws ≡ 128 * (bytes / 512) = (read_exact host index bytes s l came).1 in
      let given : Handing last.call last.out ws = rw (ap (λ (y : Came). y.taken) (same x)) at (left-handed s x.left ok) in
      by (read_came host index bytes s l).taken long given (dec_lt 16 (length ws))
    where
      by : (ws : List ℕ) → length ws ≡ 128 * (bytes / 512) → Handing last.call last.out ws → Dec (16 < length ws)
          → ws ≡ take (128 * (bytes / 512)) last.out.taken
      by ws long given (yes many) = given many ∙ ap (λ (n : ℕ). take n last.out.taken) long
      by ws long given (no few) =
          let empty : length ws ≡ 0 = omega arith in
          let zeros : 128 * (bytes / 512) ≡ 0 = omega arith in
          rw zeros (no_words ws empty)

  -- in bytes they are the buffer of an accepted read; of any other they count for nothing
  pub stepped-buffer : (buffer : List ℕ) → length buffer ≡ bytes → r.answer ≡ Answered.Accepted
      → buffer_of (read_came host index bytes s l) buffer ≡ bytes_of (take (128 * (bytes / 512)) last.out.taken)
  unfolding comes
  stepped-buffer buffer long ok =
      let came : (read_came host index bytes s l).answer ≡ Answered.Accepted = sym (ap (λ (r : Called). r.answer) (stepped-comes x).0) ∙ ok in
      read-filled host index bytes s l buffer long came ∙ ap bytes_of (stepped-words ok)

  pub stepped-nothing : (buffer : List ℕ) → (r.answer ≡ Answered.Accepted → ⊥) → buffer_of (read_came host index bytes s l) buffer ≡ buffer
  unfolding comes
  stepped-nothing buffer other =
      ap (λ (ws : List ℕ). blocks_filled ws buffer) (read_none host index bytes s l (λ ok. other (ap (λ (r : Called). r.answer) (stepped-comes x).0 ∙ ok)))
      ∙ none_filled buffer
