-- Document 01's table of refusals, lines 4 and 5: a read, a write or a status call refused before its data phase, or in it.
use Rattle.std.specs.Prelude.{Ok}
use Prim.Native.Nat.{ℕ, ◌/◌}
use mathlib.Core.Bool.{true}
use mathlib.Core.List.{List, []}
use mathlib.Core.Path.{◌≡◌, refl, ◌∙◌}
use native.Mathlib.Omega.{arith}
use Rattle.types.specs.declared.config.Config.{Config}
use Rattle.types.specs.declared.error.Answer.TheVariants as Answered
use Rattle.types.specs.Words.{sd_status_of}
use Rattle.tape.specs.declared.progress.Halt.TheVariants.{Refused, ScriptEnded, TraceFull}
use Rattle.tape.specs.Pace.{Pace}
use Rattle.tape.specs.Pace.{Going, Stopped}
use Rattle.tape.specs.declared.rows.Row.{Row}
use Rattle.tape.specs.Plan.{Nothing, Cause, failed, ended, Plan}
use Rattle.tape.specs.Run.{State, halt_of, run, run_from}
use Rattle.refusals.proofs.Guards.{guard-refused}
use Rattle.refusals.proofs.Reset.{ends-refused, ends-accepted, ResetAfter, reset-after}
use Rattle.bus.specs.declared.transfer.Transfer.{Transfer}
use Rattle.bus.specs.Command.{app_command}
use Rattle.bus.specs.Ready.{wait_ready}
use Rattle.bus.specs.Transfer.{Buffer, incoming, blocking_data, transfer_data}
use Rattle.init.specs.Initialise.{source_of, limit_of}
use Rattle.host.specs.Calls.{came, holding, dropped, kept, ends}
use Rattle.host.specs.Calls.{transferred, approached, served, blocks_next, blocks_plan, blocks_transfer, blocks_from, blocks_judged, sends, blocks_came}
use Rattle.host.specs.Calls.{status_next, status_plan, status_transfer, status_came, with_status}
use Rattle.host.specs.declared.host.Sdmmc.{Sdmmc}
use Rattle.host.specs.Calls.{answer_for}

-- Lines 4 and 5: a read, a write and a status call have an approach (ready wait, CMD55) and a data phase.

module _ (host : Sdmmc) (source : ℕ) (config : Config) (buffer : Buffer) (transfer : Transfer) (rca : ℕ) (next : State → List ℕ → Sdmmc) (s : List ℕ) where
  data_refused : (w : State) (e : Cause) → (transferred host (blocking_data source config buffer transfer rca) next s w).answer ≡ answer_for e
      → ResetAfter e host (run_from s [] (transfer_data source config buffer transfer rca) w).state (transferred host (blocking_data source config buffer transfer rca) next s w)
  unfolding transferred blocking_data
  data_refused w e r =
      let x = run_from s [] (blocking_data source config buffer transfer rca) w in
      let how = ends-refused host (dropped host x.state) (next x.state x.value) x.value x.state x.state.progress.pace e r in
      reset-after
      (guard-refused s [] (transfer_data source config buffer transfer rca) w.progress.used w.progress.rows w.progress.line w.list e how.0)
      how.1

-- a call with these two parts is refused in one of them: w is where its approach has come
pub data RefusedIn (e : Cause) (w : State) : Type 0 where
  approach : w.progress.pace ≡ Stopped (halt_of e) → RefusedIn e w
  data_phase : w.progress.pace ≡ Going → RefusedIn e w

module _ (host : Sdmmc) (transfer : Plan (List ℕ)) (next : State → List ℕ → Sdmmc) (s : List ℕ) where
  data_accepted : (w : State) → (transferred host transfer next s w).answer ≡ Answered.Accepted
      → transferred host transfer next s w
      ≡ came Answered.Accepted (run_from s [] transfer w).state (run_from s [] transfer w).value
      (next (run_from s [] transfer w).state (run_from s [] transfer w).value)
  unfolding transferred
  data_accepted w r =
      let x = run_from s [] transfer w in
      (ends-accepted host (dropped host x.state) (next x.state x.value) x.value x.state x.state.progress.pace r).1

  module _ (plan : Plan Nothing) (l : List Row) where
    -- only a call whose approach went through is accepted
    served-accepted : (served host plan transfer next s l).answer ≡ Answered.Accepted → (run s (tt {0}) plan 0 0 host.line l).state.progress.pace ≡ Going
    unfolding served approached ends
    served-accepted r = by (run s (tt {0}) plan 0 0 host.line l).state (run s (tt {0}) plan 0 0 host.line l).state.progress.pace r
      where
        by : (w : State) (q : Pace) → (approached host transfer next s q w).answer ≡ Answered.Accepted → q ≡ Going
        by w Going r = refl
        by w (Stopped (Refused x)) r = let z : ◌≡◌ {A = ℕ} 0 1 = cc in absurd (omega arith)
        by w (Stopped ScriptEnded) r = let z : ◌≡◌ {A = ℕ} 0 1 = cc in absurd (omega arith)
        by w (Stopped TraceFull) r = let z : ◌≡◌ {A = ℕ} 0 1 = cc in absurd (omega arith)

    refused_in : (e : Cause) → (served host plan transfer next s l).answer ≡ answer_for e → RefusedIn e (run s (tt {0}) plan 0 0 host.line l).state
    unfolding served approached ends
    refused_in e r = by (run s (tt {0}) plan 0 0 host.line l).state.progress.pace refl r
      where
        w : State
        w = (run s (tt {0}) plan 0 0 host.line l).state

        by : (q : Pace) → w.progress.pace ≡ q → (approached host transfer next s q w).answer ≡ answer_for e → RefusedIn e w
        by Going g r = data_phase g
        by (Stopped h) g r = approach (g ∙ (ends-refused host (kept host w) host [] w (Stopped h) e r).0)

    early : (e : Cause) → (run s (tt {0}) plan 0 0 host.line l).state.progress.pace ≡ Stopped (halt_of e)
        → served host plan transfer next s l
        ≡ came (answer_for e) (run s (tt {0}) plan 0 0 host.line l).state [] (kept host (run s (tt {0}) plan 0 0 host.line l).state)
    unfolding served approached ends
    early (failed e) g = rw g
    early ended g = rw g

    goes_on : (run s (tt {0}) plan 0 0 host.line l).state.progress.pace ≡ Going
        → served host plan transfer next s l ≡ transferred host transfer next s (run s (tt {0}) plan 0 0 host.line l).state
    unfolding served approached
    goes_on g = rw g

module _ (host : Sdmmc) (buffer : Buffer) (index bytes address : ℕ) (s : List ℕ) (l : List Row) (judged : blocks_judged host (sends buffer) index bytes ≡ Ok address) where
  -- where the ready wait of a read or a write has come
  abbrev pub blocks_wait : State
  blocks_wait = (run s (tt {0}) (wait_ready (source_of host.settings) host.settings.config host.card.rca) 0 0 host.line l).state

  -- where its data phase has come, before a refusal's reset rows
  abbrev pub blocks_steps : State
  blocks_steps = (run_from s [] (transfer_data (source_of host.settings) host.settings.config buffer (blocks_transfer buffer address (bytes / 512)) host.card.rca) blocks_wait).state

  blocks-served : blocks_came host buffer index bytes s l
      ≡ served host (wait_ready (source_of host.settings) host.settings.config host.card.rca) (blocks_plan host buffer address (bytes / 512)) (blocks_next host) s l
  unfolding blocks_came blocks_from
  blocks-served = rw judged

  blocks-data : blocks_wait.progress.pace ≡ Going
      → blocks_came host buffer index bytes s l ≡ transferred host (blocks_plan host buffer address (bytes / 512)) (blocks_next host) s blocks_wait
  blocks-data g =
      blocks-served
      ∙ goes_on host (blocks_plan host buffer address (bytes / 512)) (blocks_next host) s
      (wait_ready (source_of host.settings) host.settings.config host.card.rca) l g

  -- an accepted one: its data words, none of a write, and the record as before
  pub blocks-accepted : (blocks_came host buffer index bytes s l).answer ≡ Answered.Accepted
      → blocks_came host buffer index bytes s l
      ≡ came Answered.Accepted (run_from s [] (blocks_plan host buffer address (bytes / 512)) blocks_wait).state (run_from s [] (blocks_plan host buffer address (bytes / 512)) blocks_wait).value
      (kept host (run_from s [] (blocks_plan host buffer address (bytes / 512)) blocks_wait).state)
  blocks-accepted r =
      let g = served-accepted host (blocks_plan host buffer address (bytes / 512)) (blocks_next host) s
      (wait_ready (source_of host.settings) host.settings.config host.card.rca) l (rw blocks-served at r) in
      blocks-data g ∙ data_accepted host (blocks_plan host buffer address (bytes / 512)) (blocks_next host) s blocks_wait (rw (blocks-data g) at r)

  -- a refused one: refused in its ready wait (line 4), or in its data phase (line 5)
  pub blocks_refused_in : (e : Cause) → (blocks_came host buffer index bytes s l).answer ≡ answer_for e → RefusedIn e blocks_wait
  blocks_refused_in e r =
      refused_in host (blocks_plan host buffer address (bytes / 512)) (blocks_next host) s
      (wait_ready (source_of host.settings) host.settings.config host.card.rca) l e (rw blocks-served at r)

  -- Line 4. 'Before the data phase of a read (ready wait): rows so far, record kept, no reset.'
  pub blocks-early : (e : Cause) → blocks_wait.progress.pace ≡ Stopped (halt_of e)
      → blocks_came host buffer index bytes s l ≡ came (answer_for e) blocks_wait [] (kept host blocks_wait)
  blocks-early e g =
      blocks-served
      ∙ early host (blocks_plan host buffer address (bytes / 512)) (blocks_next host) s
      (wait_ready (source_of host.settings) host.settings.config host.card.rca) l e g

  -- Line 5. 'In a data phase: reset rows, no record.'
  pub blocks_refused_in_data : (e : Cause) → blocks_wait.progress.pace ≡ Going → (blocks_came host buffer index bytes s l).answer ≡ answer_for e
      → ResetAfter e host blocks_steps (blocks_came host buffer index bytes s l)
  blocks_refused_in_data e g r =
      rw (blocks-data g)
      (data_refused host (source_of host.settings) host.settings.config buffer (blocks_transfer buffer address (bytes / 512)) host.card.rca (blocks_next host) s blocks_wait e
      (rw (blocks-data g) at r))

module _ (host : Sdmmc) (s : List ℕ) (l : List Row) (known : host.known ≡ true) where
  -- where CMD55 of a status call has come
  abbrev pub status55 : State
  status55 = (run s (tt {0}) (app_command (limit_of host.settings) host.card.rca) 0 0 host.line l).state

  -- where its data phase has come, before a refusal's reset rows
  abbrev pub status_steps : State
  status_steps = (run_from s [] (transfer_data (source_of host.settings) host.settings.config incoming status_transfer host.card.rca) status55).state

  status-served : status_came host s l ≡ served host (app_command (limit_of host.settings) host.card.rca) (status_plan host) (status_next host) s l
  unfolding status_came
  status-served = rw known

  status-data : status55.progress.pace ≡ Going → status_came host s l ≡ transferred host (status_plan host) (status_next host) s status55
  status-data g = status-served ∙ goes_on host (status_plan host) (status_next host) s (app_command (limit_of host.settings) host.card.rca) l g

  -- an accepted status call: no more than the record's status is changed, to the words that were read
  pub status-accepted : (status_came host s l).answer ≡ Answered.Accepted
      → status_came host s l
      ≡ came Answered.Accepted (run_from s [] (status_plan host) status55).state (run_from s [] (status_plan host) status55).value
      (holding host (run_from s [] (status_plan host) status55).state
      (with_status host.card (sd_status_of (run_from s [] (status_plan host) status55).value)))
  status-accepted r =
      let g = served-accepted host (status_plan host) (status_next host) s (app_command (limit_of host.settings) host.card.rca) l (rw status-served at r) in
      status-data g ∙ data_accepted host (status_plan host) (status_next host) s status55 (rw (status-data g) at r)

  -- a refused one: refused in its CMD55 (line 4), or in its data phase (line 5)
  pub status_refused_in : (e : Cause) → (status_came host s l).answer ≡ answer_for e → RefusedIn e status55
  status_refused_in e r =
      refused_in host (status_plan host) (status_next host) s (app_command (limit_of host.settings) host.card.rca) l e (rw status-served at r)

  -- Line 4. 'Before the data phase of a status (CMD55): rows so far, record kept, no reset.'
  pub status-early : (e : Cause) → status55.progress.pace ≡ Stopped (halt_of e)
      → status_came host s l ≡ came (answer_for e) status55 [] (kept host status55)
  status-early e g = status-served ∙ early host (status_plan host) (status_next host) s (app_command (limit_of host.settings) host.card.rca) l e g

  -- Line 5. 'In a data phase: reset rows, no record.'
  pub status_refused_in_data : (e : Cause) → status55.progress.pace ≡ Going → (status_came host s l).answer ≡ answer_for e
      → ResetAfter e host status_steps (status_came host s l)
  status_refused_in_data e g r =
      rw (status-data g)
      (data_refused host (source_of host.settings) host.settings.config incoming status_transfer host.card.rca (status_next host) s status55 e
      (rw (status-data g) at r))
