-- Each call on a script comes to what its one plan does there: `initialised`, `blocks_came` and `status_came` are the runs of
-- `init_call`, `blocks_call` and `status_call`.
use Rattle.std.specs.Prelude.{Result, Ok, Err}
use Rattle.types.specs.declared.clock.Clock.{Clock}
use Prim.Native.Nat.{ℕ, ◌/◌}
use mathlib.Core.Path.{◌≡◌, refl, ap, sym, ◌∙◌}
use mathlib.Core.Bool.{Bool, true, false, cond, ◌||◌}
use mathlib.Core.List.{List, []}
use lib.Dec.{eqb, ltb}
use Rattle.types.specs.declared.card.Card.{Card}
use Rattle.types.specs.declared.error.Error.{Error}
use Rattle.types.specs.declared.error.Error.TheVariants as E
use Rattle.types.specs.Leaf.{clock_of}
use Rattle.tape.specs.declared.progress.Halt.TheVariants.{Refused, ScriptEnded, TraceFull}
use Rattle.tape.specs.declared.progress.Line.{Line}
use Rattle.tape.specs.Pace.{Pace}
use Rattle.tape.specs.Pace.{Going, Stopped}
use Rattle.tape.specs.declared.rows.Row.{Row}
use Rattle.tape.specs.Plan.{Nothing, Plan, failed, handle}
use Rattle.tape.specs.Run.{State, run, run_from, next_at}
use Rattle.tape.proofs.Laws.{run-handle}
use Rattle.bus.specs.Command.{app_command}
use Rattle.bus.specs.Ready.{wait_ready}
use Rattle.bus.specs.Transfer.{Buffer}
use Rattle.init.specs.Initialise.{source_of, limit_of, no_card, initialise}
use Rattle.host.specs.declared.host.Sdmmc.{Sdmmc}
use Rattle.host.specs.Calls.{Came, untouched, holding, dropped, ends, fresh_line, init_from, initialised}
use Rattle.host.specs.Calls.{transferred, approached, served, blocks_plan, blocks_from, blocks_judged, sends, blocks_came, status_plan, status_came}
use Rattle.stepping.specs.Closing.{Closing, keeping, dropping, finding, accepting, blocks_host, status_host}
use Rattle.feed.specs.Runs.{came_by, came_of, no_closing}
use Rattle.underway.specs.Whole.{init_at, init_call, call_plan, blocks_at, blocks_call, status_call}

-- a test before a function is a test inside it
either : {X Y : Type 0} (g : X → Y) (b : Bool) {p q : X} {x y : Y} → x ≡ g p → y ≡ g q → cond b x y ≡ g (cond b p q)
either g true e e' = e
either g false e e' = e'

module _ (host : Sdmmc) (s : List ℕ) (l : List Row) where
  abbrev came : Plan Closing → Came
  came p = came_of host (run s (no_closing host) p 0 0 host.line l)

  -- a call that is refused before its first step
  untouched-call : (e : Error) → untouched host e l ≡ came (keeping host (failed e))
  unfolding run keeping came_by
  untouched-call e = refl

  -- how a plan ends whose refusals leave no record
  init_ends : (v : Card) (q : Pace) (w : State)
      → ends host (dropped host w) (holding host w v) [] q w ≡ came_of host (next_at s (no_closing host) (finding host) (dropping host) v q w)
  unfolding ends next_at run came_by finding dropping
  init_ends v Going w = refl
  init_ends v (Stopped (Refused e)) w = refl
  init_ends v (Stopped ScriptEnded) w = refl
  init_ends v (Stopped TraceFull) w = refl

  init-at : (frequency : ℕ) (a : Result Clock Error) → init_from host frequency a s l ≡ came (init_at host frequency a)
  unfolding init_from init_at run
  init-at frequency (Err e) = untouched-call e
  init-at frequency (Ok c) =
      let p = initialise host.settings c frequency in
      let x = run s no_card p 0 0 (fresh_line c.frequency) l in
      init_ends x.value x.state.progress.pace x.state
      ∙ ap (came_of host) (sym (run-handle s no_card (no_closing host) (finding host) (dropping host) p 0 0 (fresh_line c.frequency) l))

  pub init-call : (frequency : ℕ) → initialised host frequency s l ≡ came (init_call host frequency)
  unfolding initialised init_call
  init-call frequency =
      either came (eqb frequency 0 || ltb 50_000_000 frequency) (untouched-call E.BadClock)
      (init-at frequency (clock_of (source_of host.settings) 400_000 false))

  -- an approach and a data phase
  module _ (next : Line → List ℕ → Sdmmc) (approach : Plan Nothing) (transfer : Plan (List ℕ)) where
    abbrev next_of : State → List ℕ → Sdmmc
    next_of w ws = next w.progress.line ws

    after-data : (v : List ℕ) (q : Pace) (w : State)
        → ends host (dropped host w) (next_of w v) v q w ≡ came_of host (next_at s (no_closing host) (accepting host next) (dropping host) v q w)
    unfolding ends next_at run came_by accepting dropping
    after-data v Going w = refl
    after-data v (Stopped (Refused e)) w = refl
    after-data v (Stopped ScriptEnded) w = refl
    after-data v (Stopped TraceFull) w = refl

    after-approach : (q : Pace) (w : State)
        → approached host transfer next_of s q w
        ≡ came_of host (next_at s (no_closing host) (λ (_ : Nothing). handle (accepting host next) (dropping host) transfer) (keeping host) (tt {0}) q w)
    unfolding approached transferred next_at ends run came_by keeping
    after-approach Going w =
        let x = run_from s [] transfer w in
        after-data x.value x.state.progress.pace x.state
        ∙ ap (came_of host)
        (sym (run-handle s [] (no_closing host) (accepting host next) (dropping host) transfer w.progress.used w.progress.rows w.progress.line w.list))
    after-approach (Stopped (Refused e)) w = refl
    after-approach (Stopped ScriptEnded) w = refl
    after-approach (Stopped TraceFull) w = refl

    served-call : served host approach transfer next_of s l ≡ came (call_plan host approach transfer next)
    unfolding served
    served-call =
        let x = run s (tt {0}) approach 0 0 host.line l in
        after-approach x.state.progress.pace x.state
        ∙ ap (came_of host)
        (sym (run-handle s (tt {0}) (no_closing host) (λ _. handle (accepting host next) (dropping host) transfer) (keeping host) approach 0 0 host.line l))

  -- a read or a write
  module _ (buffer : Buffer) where
    blocks-at : (blocks : ℕ) (a : Result ℕ Error) → blocks_from host buffer blocks a s l ≡ came (blocks_at host buffer blocks a)
    unfolding blocks_from blocks_at
    blocks-at blocks (Err e) = untouched-call e
    blocks-at blocks (Ok a) =
        served-call (blocks_host host) (wait_ready (source_of host.settings) host.settings.config host.card.rca) (blocks_plan host buffer a blocks)

    pub blocks-call : (index bytes : ℕ) → blocks_came host buffer index bytes s l ≡ came (blocks_call host buffer index bytes)
    unfolding blocks_came blocks_call
    blocks-call index bytes = blocks-at (bytes / 512) (blocks_judged host (sends buffer) index bytes)

  pub status-call : status_came host s l ≡ came (status_call host)
  unfolding status_came status_call
  status-call =
      either came host.known
      (served-call (status_host host) (app_command (limit_of host.settings) host.card.rca) (status_plan host))
      (untouched-call E.NoCard)
