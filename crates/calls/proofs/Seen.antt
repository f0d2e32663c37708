-- 'A call whose data phase had begun', as a caller can see it: a refused read, write or status call, one whose script ended among them, had
-- begun its data phase exactly if the last rows that it wrote are the reset rows.
use Rattle.std.specs.Prelude.{Result, Ok, Err}
use Prim.Native.Nat.{ℕ, ◌+◌, ◌-◌, ◌≤◌}
use mathlib.Core.Bool.{Bool, true, false, cond}
use mathlib.Core.List.{List}
use mathlib.Core.Path.{◌≡◌, refl, ap, sym, ◌∙◌}
use native.Mathlib.Omega.{arith}
use lib.ListN.{length, get_or, take, drop}
use lib.Seq.{get_or-take, get_or-drop}
use Rattle.types.specs.declared.error.Error.{Error}
use Rattle.types.specs.Words.{words_of}
use Rattle.tape.specs.Pace.{Going, Stopped}
use Rattle.tape.specs.declared.rows.Row.{Row}
use Rattle.tape.specs.Layout.{row_of}
use Rattle.tape.specs.Plan.{Cause}
use Rattle.tape.specs.Run.{State, halt_of}
use Rattle.tape.proofs.Walk.{Rule, LastRow, starts-last}
use Rattle.bus.specs.Command.{app_command}
use Rattle.bus.specs.Transfer.{Buffer, incoming, outgoing}
use Rattle.bus.proofs.Walks.{Ordinary, app-obeys, ready-obeys}
use Rattle.init.specs.Initialise.{source_of, limit_of}
use Rattle.host.specs.declared.host.Sdmmc.{Sdmmc}
use Rattle.host.specs.Calls.{Came, untouched, blocks_judged, sends, blocks_came, status_came}
use Rattle.host.specs.Calls.{answer_for}
use Rattle.refusals.proofs.Guards.{reset_rows}
use Rattle.refusals.proofs.Reset.{ResetAfter, reset-last}
use Rattle.refusals.proofs.DataRefusals as R
use Rattle.refusals.proofs.DataRefusals.{RefusedIn, blocks-early, blocks_refused_in, blocks_refused_in_data, status-early, status_refused_in, status_refused_in_data}
use Rattle.refusals.proofs.Untouched.{judged-untouched, status_16}
use Rattle.calls.specs.Serve.{read, write, status, comes, approach, none, approach_of, addressed, blocks_approach, going, passed, begun}

-- the last ten of the rows that a call wrote are the reset rows
pub record ResetLast (x : Came) : Type 0 where
  pub ten : 10 ≤ x.rows
  pub last : take 10 (drop (x.rows - 10) x.list) ≡ reset_rows

-- what a caller sees of whether a data phase had begun
pub record Seen (begun : Bool) (x : Came) : Type 0 where
  pub shown : begun ≡ true → ResetLast x
  pub only : ResetLast x → begun ≡ true

-- an approach writes ordinary rows alone
abbrev approach_rule : Rule
approach_rule = record { holds = λ h. Unit {0}; writes = Ordinary; refuses = λ e. Unit {0}; noted = λ r h i. tt }

-- where the last row is an ordinary one they are not
not-reset : {n : ℕ} {l : List Row} → LastRow Ordinary n l → 10 ≤ n → take 10 (drop (n - 10) l) ≡ reset_rows → ⊥
not-reset {n} {l} o h e =
    let place : n - 10 + 9 ≡ n - 1 = omega arith in
    let there : get_or l (n - 10 + 9) (row_of 0) ≡ get_or reset_rows 9 (row_of 0) =
    sym (get_or-take 10 (drop (n - 10) l) 9 (row_of 0) (omega arith) ∙ get_or-drop (n - 10) l 9 (row_of 0)) ∙ ap (λ (rs : List Row). get_or rs 9 (row_of 0)) e in
    let never = rw (rw place at there) at (o.last (n - 1) (omega arith)) in
    let z : ◌≡◌ {A = ℕ} 0 1 = cc in
    omega arith

unbegun : {x : Came} → (ResetLast x → ⊥) → Seen false x
unbegun never = record { shown = λ t. let z : ◌≡◌ {A = ℕ} 0 1 = cc in absurd (omega arith); only = λ r. absurd (never r) }

of-untouched : {x : Came} {host : Sdmmc} {e : Error} {l : List Row} → x ≡ untouched host e l → Seen false x
of-untouched same = rw same (unbegun (λ r. omega (arith, r.ten)))

-- a call with an approach and a data phase, refused: w is where its approach has come
of-refused : {e : Cause} {w : State} {x : Came} → LastRow Ordinary w.progress.rows w.list → RefusedIn e w
    → (w.progress.pace ≡ Stopped (halt_of e) → (x.rows ≡ w.progress.rows) × (x.list ≡ w.list)) → (w.progress.pace ≡ Going → ResetLast x)
    → Seen (going w.progress.pace) x
unfolding going
of-refused {x = x} o (R.approach g) early late =
    rw g (unbegun (λ r. not-reset o (rw (early g).0 at r.ten) (rw ((early g).0, (early g).1) at r.last)))
of-refused o (R.data_phase g) early late = record { shown = λ t. late g; only = λ r. rw g }

after-reset : {e : Cause} {host : Sdmmc} {w : State} {x : Came} → ResetAfter e host w x → ResetLast x
after-reset r = record { ten = omega (arith, r.rows); last = reset-last r }

module _ (host : Sdmmc) (s : List ℕ) (l : List Row) (e : Cause) where
  -- A status call.
  pub status-begun : (comes host (status s l)).answer ≡ answer_for e → Seen (begun host (status s l)) (comes host (status s l))
  unfolding comes begun approach_of passed
  status-begun r = by host.known refl
    where
      by : (b : Bool) → host.known ≡ b
          → Seen (passed (cond b (approach (app_command (limit_of host.settings) host.card.rca)) none) host.line s l) (status_came host s l)
      by true k =
          of-refused (starts-last approach_rule s (tt {0}) host.line l (app-obeys approach_rule (λ x o. tt) (λ row o. o) tt (limit_of host.settings) host.card.rca) tt)
          (status_refused_in host s l k e r)
          (λ g. let same = status-early host s l k e g in (ap (λ (x : Came). x.rows) same, ap (λ (x : Came). x.list) same))
          (λ g. after-reset (status_refused_in_data host s l k e g r))
      by false k = of-untouched (status_16 host s l k)

  -- A read, and a write.
  blocks-begun : (buffer : Buffer) (index bytes : ℕ) → (blocks_came host buffer index bytes s l).answer ≡ answer_for e
      → Seen (passed (blocks_approach host (sends buffer) index bytes) host.line s l) (blocks_came host buffer index bytes s l)
  unfolding blocks_approach passed
  blocks-begun buffer index bytes r = by (blocks_judged host (sends buffer) index bytes) refl
    where
      by : (a : Result ℕ Error) → blocks_judged host (sends buffer) index bytes ≡ a
          → Seen (passed (addressed host a) host.line s l) (blocks_came host buffer index bytes s l)
      by (Ok a) j =
          of-refused (starts-last approach_rule s (tt {0}) host.line l (ready-obeys approach_rule (λ x o. tt) (λ row o. o) (source_of host.settings) host.settings.config host.card.rca) tt)
          (blocks_refused_in host buffer index bytes a s l j e r)
          (λ g. let same = blocks-early host buffer index bytes a s l j e g in (ap (λ (x : Came). x.rows) same, ap (λ (x : Came). x.list) same))
          (λ g. after-reset (blocks_refused_in_data host buffer index bytes a s l j e g r))
      by (Err x) j = of-untouched (judged-untouched host s l buffer index bytes x j)

  pub read-begun : (index bytes : ℕ) → (comes host (read index bytes s l)).answer ≡ answer_for e
      → Seen (begun host (read index bytes s l)) (comes host (read index bytes s l))
  unfolding comes begun approach_of
  read-begun index bytes r = blocks-begun incoming index bytes r

  pub write-begun : (index : ℕ) (bytes : List ℕ) → (comes host (write index bytes s l)).answer ≡ answer_for e
      → Seen (begun host (write index bytes s l)) (comes host (write index bytes s l))
  unfolding comes begun approach_of
  write-begun index bytes r = blocks-begun (outgoing (words_of bytes)) index (length bytes) r
