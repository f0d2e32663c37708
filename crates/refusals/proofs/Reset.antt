-- Document 01's table of refusals: what 'reset rows, no record' says of a call (lines 3 and 5).
use Prim.Native.Nat.{ℕ, ◌+◌, ◌-◌, ◌≤◌}
use mathlib.Core.Bool.{false}
use mathlib.Core.List.{List, [], ◌++◌, append_assoc}
use mathlib.Core.Path.{◌≡◌, refl, ap, ◌∙◌}
use native.Mathlib.Omega.{arith}
use lib.ListN.{length, take, drop}
use lib.Seq.{take_at, drop_at, length-take-le}
use Rattle.types.specs.declared.error.Answer.TheVariants as Answered
use Rattle.tape.specs.declared.progress.Halt.TheVariants.{Refused, ScriptEnded, TraceFull}
use Rattle.tape.specs.Pace.{Pace}
use Rattle.tape.specs.Pace.{Going, Stopped}
use Rattle.tape.specs.Plan.{Cause, failed, ended}
use Rattle.tape.specs.Run.{State, halt_of}
use Rattle.tape.specs.declared.progress.Line.{Line}
use Rattle.tape.specs.declared.rows.Row.{Row}
use Rattle.refusals.proofs.Guards.{Guarded, clkcr_cleared, reset_laid, reset_rows}
use Rattle.init.specs.Initialise.{no_card}
use Rattle.host.specs.Calls.{Came, came, dropped, ends, host_of}
use Rattle.host.specs.declared.host.Sdmmc.{Sdmmc}
use Rattle.host.specs.Calls.{answer_for}

-- How a call has ended, from its answer.

module _ (host refused accepted : Sdmmc) (words : List ℕ) (w : State) where
  pub ends-refused : (q : Pace) (e : Cause) → (ends host refused accepted words q w).answer ≡ answer_for e
      → (q ≡ Stopped (halt_of e)) × (ends host refused accepted words q w ≡ came (answer_for e) w [] refused)
  unfolding ends
  ends-refused Going (failed e) r = let z : ◌≡◌ {A = ℕ} 0 1 = cc in absurd (omega arith)
  ends-refused Going ended r = let z : ◌≡◌ {A = ℕ} 0 1 = cc in absurd (omega arith)
  ends-refused (Stopped (Refused x)) (failed e) r = let same : x ≡ e = cc in (rw same, rw same)
  ends-refused (Stopped (Refused x)) ended r = let z : ◌≡◌ {A = ℕ} 0 1 = cc in absurd (omega arith)
  ends-refused (Stopped ScriptEnded) (failed e) r = let z : ◌≡◌ {A = ℕ} 0 1 = cc in absurd (omega arith)
  ends-refused (Stopped ScriptEnded) ended r = (refl, refl)
  ends-refused (Stopped TraceFull) (failed e) r = let z : ◌≡◌ {A = ℕ} 0 1 = cc in absurd (omega arith)
  ends-refused (Stopped TraceFull) ended r = let z : ◌≡◌ {A = ℕ} 0 1 = cc in absurd (omega arith)

  pub ends-accepted : (q : Pace) → (ends host refused accepted words q w).answer ≡ Answered.Accepted
      → (q ≡ Going) × (ends host refused accepted words q w ≡ came Answered.Accepted w words accepted)
  unfolding ends
  ends-accepted Going r = (refl, refl)
  ends-accepted (Stopped (Refused x)) r = let z : ◌≡◌ {A = ℕ} 0 1 = cc in absurd (omega arith)
  ends-accepted (Stopped ScriptEnded) r = let z : ◌≡◌ {A = ℕ} 0 1 = cc in absurd (omega arith)
  ends-accepted (Stopped TraceFull) r = let z : ◌≡◌ {A = ℕ} 0 1 = cc in absurd (omega arith)

-- A refused call whose steps were refused at w: then the ten reset rows, and no record. (Clock, signalling and gate stand as
-- they were there, and CLKCR is 0.)
pub record ResetAfter (e : Cause) (host : Sdmmc) (w : State) (x : Came) : Type 0 where
  pub refused : w.progress.pace ≡ Stopped (halt_of e)
  pub answer : x.answer ≡ answer_for e
  pub words : x.words ≡ w.progress.used
  pub rows : x.rows ≡ w.progress.rows + 10
  pub room : w.progress.rows + 10 ≤ length w.list
  pub list : x.list ≡ reset_laid w.list w.progress.rows
  pub taken : x.taken ≡ []
  pub next : x.host ≡ host_of host.settings (clkcr_cleared w.progress.line) false no_card

-- so the last ten of the rows that it wrote are the reset rows
pub reset-last : {e : Cause} {host : Sdmmc} {w : State} {x : Came} → ResetAfter e host w x → take 10 (drop (x.rows - 10) x.list) ≡ reset_rows
reset-last {w = w} {x = x} r =
    let n = w.progress.rows in
    let back : x.rows - 10 ≡ n = omega (arith, r.rows) in
    let past = drop (n + 10) w.list in
    rw (back, r.list)
    (ap (λ (l : List Row). take 10 (drop n l)) (append_assoc (take n w.list) reset_rows past)
    ∙ ap (take 10) (drop_at (take n w.list) (reset_rows ++ past) n (length-take-le n w.list (omega (arith, r.room))))
    ∙ take_at reset_rows past 10 refl)

pub reset-after : {e : Cause} {host : Sdmmc} {w w' : State} {x : Came} → Guarded e w w' → x ≡ came (answer_for e) w' [] (dropped host w')
    → ResetAfter e host w x
reset-after {e} {host} {w} {w'} g same =
    rw same
    (record {
      refused = g.refused;
      answer = refl;
      words = g.reset.used;
      rows = g.reset.rows;
      room = g.reset.room;
      list = g.reset.list;
      taken = refl;
      next = ap (λ (h : Line). host_of host.settings h false no_card) g.reset.line;
    })
