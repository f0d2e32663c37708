-- Document 01's table of refusals, line 3 and the end of line 5: refused in initialisation.
use Rattle.std.specs.Prelude.{Result, Ok, Err}
use Rattle.types.specs.declared.error.Error.{Error}
use Prim.Native.Nat.{ℕ, ◌≤◌}
use mathlib.Core.Bool.{Bool, true, false, not, ◌&&◌}
use mathlib.Core.List.{List, []}
use mathlib.Core.Path.{◌≡◌, refl, ap, sym, ◌∙◌}
use native.Mathlib.Omega.{arith}
use lib.Dec.{eqb, ltb}
use borrow.Author.Tests.{ne_eqb, le-ltb}
use Rattle.types.proofs.Least.{refused_none}
use Rattle.types.specs.declared.card.Card.{Card}
use Rattle.types.specs.declared.clock.Clock.{Clock}
use Rattle.types.specs.declared.error.Answer.TheVariants as Answered
use Rattle.types.specs.Leaf.{clock_of}
use Rattle.types.specs.Sd.{sd_spec, tran_speed, wide_of}
use Rattle.tape.specs.Pace.{Going, Stopped}
use Rattle.tape.specs.declared.rows.Row.{Row}
use Rattle.tape.specs.Plan.{Nothing, Cause, Plan, guard}
use Rattle.tape.specs.Run.{State, at, After, halt_of, run, run_from}
use Rattle.tape.specs.Steps.{reset_controller}
use Rattle.tape.proofs.Values.{run-gives}
use Rattle.host.proofs.Ran.{begun}
use Rattle.refusals.proofs.Guards.{one-cause, Guarded, guard-refused, Inside, inside-refused, here, first, later}
use Rattle.refusals.proofs.Reset.{ends-refused, ends-accepted, ResetAfter, reset-after}
use Rattle.bus.specs.declared.transfer.Transfer.{Transfer}
use Rattle.bus.specs.Command.{app_command}
use Rattle.bus.specs.Ready.{wait_ready}
use Rattle.bus.specs.Transfer.{incoming, blocking_data, transfer_data}
use Rattle.init.specs.declared.settings.Settings.{Settings}
use Rattle.init.specs.Initialise.{source_of, limit_of, no_card, begin_init, wait_power_up, identify}
use Rattle.init.specs.Initialise.{scr_transfer, block_length, read_scr, set_width, transfer_clock, switch_transfer, offered, take_switch, ask_switch, switch_speed, settle_card, init_card, initialise}
use Rattle.init.proofs.Found.{Found, initialise-given}
use Rattle.host.specs.Calls.{Came, came, holding, dropped, fresh_line, init_from, initialised}
use Rattle.host.specs.declared.host.Sdmmc.{Sdmmc}
use Rattle.host.specs.Calls.{answer_for}

-- what an initialisation that is accepted found of the card
pub found : (s : List ℕ) (set : Settings) (c : Clock) (frequency : ℕ) (l : List Row)
    → (run s no_card (initialise set c frequency) 0 0 (fresh_line c.frequency) l).state.progress.pace ≡ Going
    → Found (run s no_card (initialise set c frequency) 0 0 (fresh_line c.frequency) l).value
found s set c frequency l = run-gives s no_card (initialise-given set c frequency) 0 0 (fresh_line c.frequency) l

-- every source that a host is made with has a clock of identification
pub identification_clock : (source : ℕ) → 2 ≤ source → source ≤ 102_800_000 → (c : Clock) × (clock_of source 400_000 false ≡ Ok c)
identification_clock source from2 up_to = by (clock_of source 400_000 false) refl
  where
    by : (a : Result Clock Error) → clock_of source 400_000 false ≡ a → (c : Clock) × (clock_of source 400_000 false ≡ Ok c)
    by (Ok c) e = (c, e)
    by (Err x) e =
        absurd (refused_none source 400_000 (omega arith) (omega arith) (omega arith) x e 257
        (record { from2 = omega arith; to257 = omega arith; slow = omega arith }))

-- Line 3. 'Any of 1 to 20 after that in initialisation: reset rows, no record.'

module _ (host : Sdmmc) (frequency : ℕ) (s : List ℕ) (l : List Row) (some : 1 ≤ frequency) (most : frequency ≤ 50_000_000) (c : Clock) (set : clock_of (source_of host.settings) 400_000 false ≡ Ok c) where
  -- the steps of it, before a refusal's reset rows
  abbrev pub init_steps : State
  init_steps = (run s no_card (init_card host.settings c frequency) 0 0 (fresh_line c.frequency) l).state

  begins : initialised host frequency s l ≡ init_from host frequency (Ok c) s l
  unfolding initialised
  begins = rw (ne_eqb frequency 0 (λ e. omega arith), le-ltb 50_000_000 frequency most, set)

  pub initialise-refused : (e : Cause) → (initialised host frequency s l).answer ≡ answer_for e → ResetAfter e host init_steps (initialised host frequency s l)
  unfolding init_from initialise
  initialise-refused e r =
      let x = run s no_card (initialise host.settings c frequency) 0 0 (fresh_line c.frequency) l in
      let how = ends-refused host (dropped host x.state) (holding host x.state x.value) [] x.state x.state.progress.pace e
      (ap (λ (y : Came). y.answer) (sym begins) ∙ r) in
      reset-after (guard-refused s no_card (init_card host.settings c frequency) 0 0 (fresh_line c.frequency) l e how.0) (begins ∙ how.1)

  -- an accepted initialisation: the record is what its steps gave
  pub initialise-accepted : (initialised host frequency s l).answer ≡ Answered.Accepted
      → initialised host frequency s l
      ≡ came Answered.Accepted (run s no_card (initialise host.settings c frequency) 0 0 (fresh_line c.frequency) l).state []
      (holding host (run s no_card (initialise host.settings c frequency) 0 0 (fresh_line c.frequency) l).state
      (run s no_card (initialise host.settings c frequency) 0 0 (fresh_line c.frequency) l).value)
  unfolding init_from
  initialise-accepted r =
      let x = run s no_card (initialise host.settings c frequency) 0 0 (fresh_line c.frequency) l in
      begins
      ∙ (ends-accepted host (dropped host x.state) (holding host x.state x.value) [] x.state x.state.progress.pace
      (ap (λ (y : Came). y.answer) (sym begins) ∙ r)).1

  -- which counts what SD has for its CSD, and has status zero
  pub initialise-found : (initialised host frequency s l).answer ≡ Answered.Accepted → Found (initialised host frequency s l).host.card
  unfolding init_from
  initialise-found r =
      let x = run s no_card (initialise host.settings c frequency) 0 0 (fresh_line c.frequency) l in
      let how = ends-accepted host (dropped host x.state) (holding host x.state x.value) [] x.state x.state.progress.pace
      (ap (λ (y : Came). y.answer) (sym begins) ∙ r) in
      rw (initialise-accepted r) (found s host.settings c frequency l how.0)

  -- Line 5, its end: 'inside initialisation the reset rows come twice'. A data phase begun at w on the way of the steps and
  -- refused: where the steps end its reset rows are written, and once more at the end of the call.
  pub initialise-twice : (transfer : Transfer) (rca : ℕ) (w : State) (x e : Cause)
      → Inside s [] (blocking_data (source_of host.settings) host.settings.config incoming transfer rca) w Card
      (init_card host.settings c frequency) (at (begun (fresh_line c.frequency)) l)
      → (run_from s [] (blocking_data (source_of host.settings) host.settings.config incoming transfer rca) w).state.progress.pace ≡ Stopped (halt_of x)
      → (initialised host frequency s l).answer ≡ answer_for e
      → (x ≡ e) × Guarded x (run_from s [] (transfer_data (source_of host.settings) host.settings.config incoming transfer rca) w).state init_steps
      × ResetAfter e host init_steps (initialised host frequency s l)
  unfolding blocking_data
  initialise-twice transfer rca w x e i inner r =
      let p = transfer_data (source_of host.settings) host.settings.config incoming transfer rca in
      let there = inside-refused s [] (guard reset_controller p) w x inner Card (init_card host.settings c frequency) (at (begun (fresh_line c.frequency)) l) no_card i in
      let once : Guarded x (run_from s [] p w).state init_steps =
      rw there (guard-refused s [] p w.progress.used w.progress.rows w.progress.line w.list x inner) in
      let again = initialise-refused e r in
      let at_x : init_steps.progress.pace ≡ Stopped (halt_of x) = once.reset.pace ∙ once.refused in
      let at-e : init_steps.progress.pace ≡ Stopped (halt_of e) = again.refused in
      (one-cause x e (sym at_x ∙ at-e), once, again)

-- The three data phases of initialisation, for the SCR and twice CMD6, are inside its steps: each where every step before it
-- went through. First of what follows identification.
module _ (s : List ℕ) (set : Settings) (frequency : ℕ) (card : Card) (w : State) where
  abbrev pub waits : After Nothing
  waits = run_from s (tt {0}) (wait_ready (source_of set) set.config card.rca) w

  abbrev pub lengthens : After Nothing
  lengthens = run_from s (tt {0}) (block_length (limit_of set) card.card_type) waits.state

  abbrev pub asks_scr : After Nothing
  asks_scr = run_from s (tt {0}) (app_command (limit_of set) card.rca) lengthens.state

  pub scr-inside : waits.state.progress.pace ≡ Going → lengthens.state.progress.pace ≡ Going → asks_scr.state.progress.pace ≡ Going
      → Inside s [] (blocking_data (source_of set) set.config incoming scr_transfer card.rca) asks_scr.state Card (settle_card set frequency card) w
  unfolding settle_card read_scr
  scr-inside g1 g2 g3 =
      first {A = ℕ} 0 (read_scr set card) _ w
      (later (tt {0}) (wait_ready (source_of set) set.config card.rca) _ w g1
      (later (tt {0}) (block_length (limit_of set) card.card_type) _ waits.state g2
      (later (tt {0}) (app_command (limit_of set) card.rca) _ lengthens.state g3
      (first [] (blocking_data (source_of set) set.config incoming scr_transfer card.rca) _ asks_scr.state here))))

  abbrev pub reads_scr : After ℕ
  reads_scr = run_from s 0 (read_scr set card) w

  abbrev pub widens : After Nothing
  widens = run_from s (tt {0}) (set_width set card.rca reads_scr.value) reads_scr.state

  abbrev pub clocks : After Nothing
  clocks = run_from s (tt {0}) (transfer_clock set frequency (tran_speed (wide_of card.csd))) widens.state

  abbrev pub asking : Plan (List ℕ)
  asking = blocking_data (source_of set) set.config incoming (switch_transfer 0x00ff_fff1) card.rca

  abbrev pub asks_switch : After (List ℕ)
  asks_switch = run_from s [] asking clocks.state

  module _ (g1 : reads_scr.state.progress.pace ≡ Going) (g2 : widens.state.progress.pace ≡ Going) (g3 : clocks.state.progress.pace ≡ Going)
      (fast : (ltb 25_000_000 frequency && not (eqb (sd_spec reads_scr.value) 0)) ≡ true) where
    up_to_switch : {q : Plan (List ℕ)} {w' : State} → Inside s [] q w' Nothing (ask_switch set frequency card.rca) clocks.state
        → Inside s [] q w' Card (settle_card set frequency card) w
    unfolding settle_card switch_speed
    up_to_switch i =
        later {A = ℕ} 0 (read_scr set card) _ w g1
        (later (tt {0}) (set_width set card.rca reads_scr.value) _ reads_scr.state g2
        (later (tt {0}) (transfer_clock set frequency (tran_speed (wide_of card.csd))) _ widens.state g3
        (first (tt {0}) (switch_speed set frequency card.rca reads_scr.value) _ clocks.state (rw fast i))))

    pub ask_inside : Inside s [] asking clocks.state Card (settle_card set frequency card) w
    unfolding ask_switch
    ask_inside = up_to_switch (first [] asking _ clocks.state here)

    pub take-inside : asks_switch.state.progress.pace ≡ Going → offered asks_switch.value ≡ true
        → Inside s [] (blocking_data (source_of set) set.config incoming (switch_transfer 0x80ff_fff1) card.rca) asks_switch.state Card (settle_card set frequency card) w
    unfolding ask_switch take_switch
    take-inside g4 has =
        up_to_switch
        (later [] asking _ clocks.state g4
        (rw has (first [] (blocking_data (source_of set) set.config incoming (switch_transfer 0x80ff_fff1) card.rca) _ asks_switch.state here)))

-- And that is inside the whole.
module _ (s : List ℕ) (set : Settings) (c : Clock) (frequency : ℕ) (w : State) where
  abbrev pub powers_on : After Bool
  powers_on = run_from s false (begin_init set c) w

  abbrev pub powers_up : After ℕ
  powers_up = run_from s 0 (wait_power_up set powers_on.value) powers_on.state

  abbrev pub identifies : After Card
  identifies = run_from s no_card (identify (limit_of set) powers_up.value) powers_up.state

  pub settle-inside : {q : Plan (List ℕ)} {w' : State}
      → powers_on.state.progress.pace ≡ Going → powers_up.state.progress.pace ≡ Going → identifies.state.progress.pace ≡ Going
      → Inside s [] q w' Card (settle_card set frequency identifies.value) identifies.state
      → Inside s [] q w' Card (init_card set c frequency) w
  unfolding init_card
  settle-inside g1 g2 g3 i =
      later false (begin_init set c) _ w g1
      (later {A = ℕ} 0 (wait_power_up set powers_on.value) _ powers_on.state g2
      (later no_card (identify (limit_of set) powers_up.value) _ powers_up.state g3 i))
