-- How a data phase goes on from each of its places.
use Rattle.std.specs.Prelude.{Ok, Err, Some, None}
use Prim.Native.Nat.{ℕ, suc, ◌+◌, ◌-◌, ◌%◌, ◌^◌, ◌<◌, ◌≤◌}
use mathlib.Core.Path.{◌≡◌, refl, ap, sym, ◌∙◌}
use mathlib.Core.Bool.{Bool, true, false, not, ◌||◌}
use mathlib.Core.List.{List, [], ◌∷◌, ◌++◌, append-nil}
use native.Mathlib.Omega.{arith}
use lib.Dec.{eqb}
use lib.ListN.{get_or, take}
use Rattle.types.specs.Bits.{clear}
use Rattle.types.specs.Leaf.{data_of}
use Rattle.types.specs.declared.error.Error.{Error}
use Rattle.types.specs.declared.error.Error.TheVariants as E
use Rattle.tape.specs.declared.progress.Line.{Line}
use Rattle.tape.specs.declared.rows.Row.{Row}
use Rattle.tape.specs.Plan.{Nothing, Plan, give, fail, handle, ensure, until}
use Rattle.tape.specs.Rows.{FIFO}
use Rattle.tape.specs.Run.{noted}
use Rattle.tape.specs.Steps.{word, row, wait_idle, stop_data, reset_controller, set_clken, data_from, data_words, send_from}
use Rattle.bus.specs.declared.response.Response.TheVariants.{R1}
use Rattle.bus.specs.declared.transfer.Transfer.{Transfer}
use Rattle.bus.specs.Ready.{wait_ready}
use Rattle.bus.specs.Transfer.{arm, ready_data, order_data, before_command, after_command, landed, start_data, clean, poll_transfer, drained, settle, data_complete, wait_data, receive, close_gate, of_many, stop_transmission, end_data, transfer_data, blocking_data}
use Rattle.step.specs.Next.{Next, tells, over, refused, next, heard, told, missed, want_of, waits, line_after, Lent}
use Rattle.step.specs.Context.{plug, plug_next, next_plug}
use Rattle.step.specs.Command.{command_plan, command_next, end_next, begun_plan, begun_next}
use Rattle.step.specs.Rows.{rows_from, reset_rows, arm_rows, stop_rows}
use Rattle.step.specs.Reset.{rest_left, step_left, all_rows}
use Rattle.step.specs.Arm.{arm_rest, arm_next, all_arm, stop_rest, stop_next, all_stop}
use Rattle.step.specs.Why.{cause_of}
use Rattle.step.specs.declared.why.Why.TheVariants as Y
use Rattle.step.specs.declared.why.Why.{Why}
use Rattle.step.specs.Ready.{limit_at, ready_plan, ready_next}
use Rattle.step.specs.Transfer.{transfer_of, sends_of, buffer_of, top_of, place_of, after_of, given_of, all_of, reading_at, phase_plan, received, started, armed, ordered, start_site, ending, stopping, unclocked, stop_site, closing, refusal, idling, sending, polling, taking, reads_plan, stopped, writes_plan, row_at, told_plan, data_plan}
use Rattle.step.specs.declared.arm.Arm.{Arm}
use Rattle.step.specs.declared.arm.Arm.TheVariants as Ar
use Rattle.step.specs.declared.arm.Stop.{Stop}
use Rattle.step.specs.declared.arm.Stop.TheVariants as St
use Rattle.step.specs.declared.reset.Reset.{Reset}
use Rattle.step.specs.declared.reset.Reset.TheVariants as Re
use Rattle.step.specs.declared.command.Command.{Command}
use Rattle.step.specs.declared.why.Step.TheVariants as Sp
use Rattle.step.specs.declared.command.Words.{Words}
use Rattle.step.specs.declared.ready.Bus.{Bus}
use Rattle.step.specs.declared.ready.Ready.{Ready}
use Rattle.step.specs.declared.phase.Phase.{Phase}
use Rattle.step.specs.declared.phase.Phase.TheVariants as P
use Rattle.step.specs.declared.transfer.Reads.{Reads}
use Rattle.step.specs.declared.transfer.Reads.TheVariants as R
use Rattle.step.specs.declared.transfer.Writes.{Writes}
use Rattle.step.specs.declared.transfer.Writes.TheVariants as W
use Rattle.step.specs.declared.transfer.Data.{Data}
use Rattle.step.specs.declared.transfer.Data.TheVariants as D
use Rattle.step.specs.declared.wants.Wants.TheVariants as Wa
use Rattle.step.proofs.Inside.{same-plug, command-waits, inside-waits}
use Rattle.step.proofs.Parts as parts
use Rattle.step.proofs.Readying.{ready-waits}
use Rattle.step.proofs.Words.{appends, then_give, some_words}

-- the blocks of rows are the plans of the tape
reset-rows : reset_controller ≡ rows_from reset_rows
unfolding reset_controller row handle rows_from
reset-rows = refl

arm-rows : (timeout : ℕ) (transfer : Transfer) → arm timeout transfer ≡ rows_from (arm_rows timeout transfer)
unfolding arm stop_data row handle rows_from
arm-rows timeout transfer = refl

stop-rows : stop_data ≡ rows_from stop_rows
unfolding stop_data row handle rows_from
stop-rows = refl

-- DCTRL, before the command of a read and behind that of a write, is a row of the plan, whichever phase it is
control_reads : (bus : Bus) (phase : Phase) (h : Line) (ws : Lent) → sends_of phase ≡ false
    → next (writes_plan bus phase ws W.Control) h ≡ next (plug (armed bus phase ws) (give tt)) h
unfolding writes_plan before_command row handle plug sends_of transfer_of
control_reads bus P.Scr h ws e = refl
control_reads bus P.Check h ws e = refl
control_reads bus P.Switch h ws e = refl
control_reads bus P.Status h ws e = refl
control_reads bus (P.Blocks address blocks) h ws e = refl
control_reads bus (P.Sends address blocks) h ws e = cc

control_sends : (bus : Bus) (phase : Phase) (h : Line) (ws : Lent) → sends_of phase ≡ true
    → next (writes_plan bus phase ws W.Control) h ≡ next (plug (ordered bus phase ws) (give tt)) h
unfolding writes_plan after_command row handle plug sends_of transfer_of
control_sends bus P.Scr h ws e = cc
control_sends bus P.Check h ws e = cc
control_sends bus P.Switch h ws e = cc
control_sends bus P.Status h ws e = cc
control_sends bus (P.Blocks address blocks) h ws e = cc
control_sends bus (P.Sends address blocks) h ws e = refl

module _ (bus : Bus) (phase : Phase) (h : Line) where
  abbrev timeout : ℕ
  timeout = bus.config.data_transfer_timeout

  abbrev telling : Lent → Writes → Next (List ℕ)
  telling ws t = next (writes_plan bus phase ws t) h

  abbrev asking : Lent → Reads → Next (List ℕ)
  asking ws r = next (reads_plan bus phase ws r) h

  -- it begins with all polls of its idle wait
  pub begins : (ws : Lent) → next (idling bus phase ws (limit_at bus)) h ≡ next (phase_plan bus phase ws.sent) h
  unfolding idling blocking_data transfer_data start_data ready_data plug
  begins ws = refl

  -- a refusal: the guard's reset rows, and then the refusal
  pub refusing : (ws : Lent) (e : Why) → telling ws (W.Reset Re.Mask e) ≡ next (refusal bus phase e) h
  unfolding writes_plan refusal plug handle
  refusing ws e = ap (λ (rs : List Row). next (plug (closing bus phase e) (rows_from rs)) h) all_rows ∙ rw (← reset-rows)

  pub idle-over : (ws : Lent) → next (refusal bus phase (Y.Failed E.SoftwareTimeout)) h ≡ next (idling bus phase ws 0) h
  unfolding refusal idling wait_idle until handle plug
  idle-over ws = refl

  pub idle-goes : (ws : Lent) (n : ℕ) → asking ws (R.Idle n) ≡ next (idling bus phase ws (suc n)) h
  unfolding reads_plan
  idle-goes ws n = refl

  pub polls-over : (ws : Lent) → next (refusal bus phase (Y.Failed E.SoftwareTimeout)) h ≡ next (polling bus phase ws 0) h
  unfolding refusal polling until handle plug
  polls-over ws = refl

  pub polls_go : (ws : Lent) (n : ℕ) → asking ws (R.First n) ≡ next (polling bus phase ws (suc n)) h
  unfolding reads_plan
  polls_go ws n = refl

  -- the data command
  pub starts-on : (ws : Lent) (c : Command) → begun_next (Some c) h ≡ next (begun_plan (limit_at bus) (transfer_of phase).index (transfer_of phase).argument R1 false) h
      → next (data_plan bus phase ws (D.Start c)) h ≡ next (told_plan bus phase ws W.Open) h
  unfolding data_plan told_plan begun_next
  starts-on ws c e =
      same-plug (start_site bus phase ws) _ _ h
      (e ∙ ap (λ (p : Plan (List ℕ)). next p h) (parts.begins-inner (limit_at bus) (transfer_of phase).index (transfer_of phase).argument R1))

  pub starts-failed : (ws : Lent) → begun_next None h ≡ next (begun_plan (limit_at bus) (transfer_of phase).index (transfer_of phase).argument R1 false) h
      → next (refusal bus phase (Y.Failed E.SoftwareTimeout)) h ≡ next (told_plan bus phase ws W.Open) h
  unfolding refusal told_plan begun_next start_site handle plug
  starts-failed ws e =
      same-plug (start_site bus phase ws) (fail E.SoftwareTimeout) _ h
      (e ∙ ap (λ (p : Plan (List ℕ)). next p h) (parts.begins-inner (limit_at bus) (transfer_of phase).index (transfer_of phase).argument R1))

  pub starting_on : (ws : Lent) (c : Command) → next (data_plan bus phase ws (D.Start c)) h ≡ plug_next (start_site bus phase ws) (command_next (Sp.On c) h)
  unfolding data_plan command_next
  starting_on ws c = next_plug (start_site bus phase ws) (command_plan c) h

  pub starting_well : (ws : Lent) (w : Words) → next (plug (ordered bus phase ws) (give tt)) h ≡ plug_next (start_site bus phase ws) (command_next (Sp.Over (Ok w)) h)
  unfolding start_site command_next end_next plug_next handle plug next
  starting_well ws w = refl

  pub starting_badly : (ws : Lent) (e : Why) → next (refusal bus phase e) h ≡ plug_next (start_site bus phase ws) (command_next (Sp.Over (Err e)) h)
  unfolding refusal start_site command_next end_next plug_next handle plug next
  starting_badly ws e = refl

  -- after the rows that ready the data path, after the data command, and after DCTRL: a read's and a write's
  pub readied_reads : (ws : Lent) → sends_of phase ≡ false → telling ws W.Control ≡ next (plug (armed bus phase ws) (give tt)) h
  readied_reads ws e = control_reads bus phase h ws e

  pub readied_sends : (ws : Lent) → sends_of phase ≡ true → telling ws W.Open ≡ next (plug (armed bus phase ws) (give tt)) h
  unfolding writes_plan before_command handle plug
  readied_sends ws e = rw e

  polls_begin : (ws : Lent) → next (polling bus phase ws (limit_at bus)) h ≡ next (plug (started bus phase ws) (give tt)) h
  unfolding polling receive wait_data handle plug
  polls_begin ws = refl

  pub ordered-reads : (ws : Lent) → sends_of phase ≡ false → next (polling bus phase ws (limit_at bus)) h ≡ next (plug (ordered bus phase ws) (give tt)) h
  unfolding after_command handle plug
  ordered-reads ws e = polls_begin ws ∙ rw e

  pub ordered-sends : (ws : Lent) → sends_of phase ≡ true → telling ws W.Control ≡ next (plug (ordered bus phase ws) (give tt)) h
  ordered-sends ws e = control_sends bus phase h ws e

  pub controls_reads : (ws : Lent) → sends_of phase ≡ false → telling ws W.Open ≡ next (told_plan bus phase ws W.Control) h
  unfolding writes_plan told_plan handle plug
  controls_reads ws e = rw e

  pub controls_sends : (ws : Lent) → sends_of phase ≡ true → next (data_plan bus phase ws (D.Sends (top_of phase))) h ≡ next (told_plan bus phase ws W.Control) h
  unfolding data_plan told_plan handle plug
  controls_sends ws e =
      let some = some_words phase in
      let zeroth : place_of phase (top_of phase) ≡ 0 = omega arith in
      let all : suc (top_of phase - 0) ≡ (transfer_of phase).words = omega arith in
      rw (zeroth, all, e)

  -- a word that was sent: the next one, or the polls
  module _ (ws : Lent) (m : ℕ) where
    abbrev sent_to : ℕ
    sent_to = place_of phase m

    pub sends-on : sent_to < top_of phase → next (data_plan bus phase ws (D.Sends (top_of phase - sent_to - 1))) h ≡ next (sending bus phase ws (sent_to + 1) (after_of phase m)) h
    unfolding data_plan
    sends-on small =
        let place : place_of phase (top_of phase - sent_to - 1) ≡ sent_to + 1 = omega arith in
        let left : suc (top_of phase - (sent_to + 1)) ≡ after_of phase m = omega arith in
        rw (place, left)

    pub sends-done : top_of phase ≤ sent_to → next (polling bus phase ws (limit_at bus)) h ≡ next (sending bus phase ws (sent_to + 1) (after_of phase m)) h
    unfolding send_from
    sends-done last = let none : after_of phase m ≡ 0 = omega arith in rw none (polls_begin ws)

  -- the closing ready wait
  pub waiting-on : (ws : Lent) (r : Ready) → next (data_plan bus phase ws (D.Ready r)) h ≡ plug_next (ending bus phase ws) (ready_next bus (Sp.On r) h)
  unfolding data_plan ready_next
  waiting-on ws r = next_plug (ending bus phase ws) (ready_plan bus r) h

  pub waiting-done : (ws : Lent) → over h (all_of phase ws) ≡ plug_next (ending bus phase ws) (ready_next bus (Sp.Over (Ok tt)) h)
  unfolding ready_next ending plug_next handle plug next
  waiting-done ws = refl

  pub waiting-failed : (ws : Lent) (e : Why) → next (refusal bus phase e) h ≡ plug_next (ending bus phase ws) (ready_next bus (Sp.Over (Err e)) h)
  unfolding ready_next refusal ending plug_next handle plug
  waiting-failed ws e = refl

  -- the end of a data phase: CMD12 after CMD18, and the ready wait
  abbrev ready : Plan Nothing
  ready = wait_ready bus.source.0 bus.config bus.rca

  pub stopping-on : (ws : Lent) (c : Command) → next (data_plan bus phase ws (D.Stop c)) h ≡ plug_next (stop_site bus phase ws) (command_next (Sp.On c) h)
  unfolding data_plan command_next
  stopping-on ws c = next_plug (stop_site bus phase ws) (command_plan c) h

  pub stopping_well : (ws : Lent) (w : Words) → plug_next (ending bus phase ws) (next ready h) ≡ plug_next (stop_site bus phase ws) (command_next (Sp.Over (Ok w)) h)
  unfolding stop_site command_next end_next plug_next handle plug next
  stopping_well ws w = sym (next_plug (ending bus phase ws) ready h)

  pub stopping_badly : (ws : Lent) (e : Why) → next (refusal bus phase e) h ≡ plug_next (stop_site bus phase ws) (command_next (Sp.Over (Err e)) h)
  unfolding refusal stop_site ending command_next end_next plug_next handle plug next
  stopping_badly ws e = refl

  pub stops-other : (ws : Lent) → of_many (transfer_of phase).index ≡ false
      → plug_next (ending bus phase ws) (next ready h) ≡ next (plug (unclocked bus phase ws) (give tt)) h
  unfolding unclocked stop_transmission handle plug
  stops-other ws e = rw e (sym (next_plug (ending bus phase ws) ready h))

  module _ (ws : Lent) (gated : Bool) (gate : h.gated ≡ gated) where
    stops : of_many (transfer_of phase).index ≡ true
        → next (plug (stop_site bus phase ws) (begun_plan (limit_at bus) 12 0 R1 gated)) h ≡ next (plug (unclocked bus phase ws) (give tt)) h
    unfolding unclocked stop_site stop_transmission handle plug
    stops e = same-plug (stop_site bus phase ws) _ _ h (parts.begins (limit_at bus) 12 0 R1 gated h (sym gate)) ∙ rw e

    pub stops-on : (c : Command) → of_many (transfer_of phase).index ≡ true → begun_next (Some c) h ≡ next (begun_plan (limit_at bus) 12 0 R1 gated) h
        → next (data_plan bus phase ws (D.Stop c)) h ≡ next (plug (unclocked bus phase ws) (give tt)) h
    unfolding data_plan begun_next
    stops-on c e b = same-plug (stop_site bus phase ws) _ _ h b ∙ stops e

    pub stops-failed : of_many (transfer_of phase).index ≡ true → begun_next None h ≡ next (begun_plan (limit_at bus) 12 0 R1 gated) h
        → next (refusal bus phase (Y.Failed E.SoftwareTimeout)) h ≡ next (plug (unclocked bus phase ws) (give tt)) h
    unfolding begun_next refusal stop_site ending handle plug
    stops-failed e b = same-plug (stop_site bus phase ws) (fail E.SoftwareTimeout) _ h b ∙ stops e

    pub closes-gated : gated ≡ true → telling ws W.Gate ≡ next (stopped bus phase ws) h
    unfolding writes_plan unclocked ending stopped rows_from close_gate handle plug next
    closes-gated e = rw (gate ∙ e)

    pub closes_open : gated ≡ false → next (plug (unclocked bus phase ws) (give tt)) h ≡ next (stopped bus phase ws) h
    unfolding unclocked ending stopped rows_from close_gate handle plug next
    closes_open e = rw (gate ∙ e)

  -- after a row
  module _ (ws : Lent) where
    pub reset-on : (r r' : Reset) (e : Why) → step_left (Some r') ≡ rest_left r → telling ws (W.Reset r' e) ≡ next (told_plan bus phase ws (W.Reset r e)) h
    unfolding writes_plan told_plan step_left
    reset-on r r' e p = ap (λ (rs : List Row). next (plug (closing bus phase e) (rows_from rs)) h) p

    pub reset-done : (r : Reset) (e : Why) → step_left None ≡ rest_left r → refused h (cause_of e) ≡ next (told_plan bus phase ws (W.Reset r e)) h
    unfolding told_plan step_left plug handle rows_from next
    reset-done r e p = ap (λ (rs : List Row). next (plug (closing bus phase e) (rows_from rs)) h) p

    pub arm-on : (r r' : Arm) → arm_next timeout (transfer_of phase) (Some r') ≡ arm_rest timeout (transfer_of phase) r
        → telling ws (W.Arm r') ≡ next (told_plan bus phase ws (W.Arm r)) h
    unfolding writes_plan told_plan arm_next
    arm-on r r' p = ap (λ (rs : List Row). next (plug (armed bus phase ws) (rows_from rs)) h) p

    pub arm_done : (r : Arm) → arm_next timeout (transfer_of phase) None ≡ arm_rest timeout (transfer_of phase) r
        → next (plug (armed bus phase ws) (give tt)) h ≡ next (told_plan bus phase ws (W.Arm r)) h
    unfolding told_plan arm_next rows_from
    arm_done r p = ap (λ (rs : List Row). next (plug (armed bus phase ws) (rows_from rs)) h) p

    pub stop_on : (r r' : Stop) → stop_next (Some r') ≡ stop_rest r → telling ws (W.Stop r') ≡ next (told_plan bus phase ws (W.Stop r)) h
    unfolding writes_plan told_plan stop_next
    stop_on r r' p = ap (λ (rs : List Row). next (plug (stopping bus phase ws) (rows_from rs)) h) p

    pub stop_done : (r : Stop) → stop_next None ≡ stop_rest r → next (stopped bus phase ws) h ≡ next (told_plan bus phase ws (W.Stop r)) h
    unfolding stopped told_plan stop_next
    stop_done r p = ap (λ (rs : List Row). next (plug (stopping bus phase ws) (rows_from rs)) h) p

    -- after a word
    -- where no word will come
    pub unanswered : (r : Reads) → next (refusal bus phase Y.NoWord) h ≡ missed (asking ws r)
    unfolding reads_plan refusal idling wait_idle polling until data_complete poll_transfer settle data_from word handle plug next missed
    unanswered (R.Idle n) = refl
    unanswered (R.First n) = refl
    unanswered (R.FirstDma n v) = refl
    unanswered (R.Again n) = refl
    unanswered (R.AgainDma n v) = refl
    unanswered (R.Count n) = refl
    unanswered (R.Word m) = refl

    pub idle-ends : (n w : ℕ) → clear 0x3800 w ≡ true → telling ws (W.Arm Ar.Dctrl2) ≡ heard (asking ws (R.Idle n)) w
    unfolding writes_plan reads_plan idling wait_idle until word handle plug next heard
    idle-ends n w e = ap (λ (rs : List Row). next (plug (armed bus phase ws) (rows_from rs)) h) (all_arm timeout (transfer_of phase)) ∙ rw (e, ← arm-rows)

    pub idle-on : (n w : ℕ) → clear 0x3800 w ≡ false → next (idling bus phase ws n) h ≡ heard (asking ws (R.Idle n)) w
    unfolding reads_plan idling wait_idle until word handle plug next heard
    idle-on n w e = rw e

    pub first-clean : (n w : ℕ) → data_of w ≡ (Ok tt) → asking ws (R.FirstDma n w) ≡ heard (asking ws (R.First n)) w
    unfolding reads_plan polling until data_complete poll_transfer clean word handle plug next heard
    first-clean n w e = rw e

    pub first-bad : (n w : ℕ) (x : Error) → data_of w ≡ Err x → next (refusal bus phase (Y.Failed x)) h ≡ heard (asking ws (R.First n)) w
    unfolding reads_plan refusal polling until data_complete poll_transfer clean word handle plug next heard
    first-bad n w x e = rw e

    pub dma-bad : (n v w : ℕ) → clear 0x8000_0000 w ≡ false → next (refusal bus phase (Y.Failed E.Dma)) h ≡ heard (asking ws (R.FirstDma n v)) w
    unfolding reads_plan refusal ensure word handle plug next heard
    dma-bad n v w e = rw e

    pub dma-runs : (n v w : ℕ) → clear 0x8000_0000 w ≡ true → clear 0x4000_0000 w ≡ false → next (polling bus phase ws n) h ≡ heard (asking ws (R.FirstDma n v)) w
    unfolding reads_plan polling ensure word handle plug next heard
    dma-runs n v w e f = rw (e, f)

    pub dma-done : (n v w : ℕ) → clear 0x8000_0000 w ≡ true → clear 0x4000_0000 w ≡ true → asking ws (R.Again n) ≡ heard (asking ws (R.FirstDma n v)) w
    unfolding reads_plan ensure word handle plug next heard
    dma-done n v w e f = rw (e, f)

    pub again_clean : (n w : ℕ) → data_of w ≡ (Ok tt) → asking ws (R.AgainDma n w) ≡ heard (asking ws (R.Again n)) w
    unfolding reads_plan settle poll_transfer clean word handle plug next heard
    again_clean n w e = rw e

    pub again_bad : (n w : ℕ) (x : Error) → data_of w ≡ Err x → next (refusal bus phase (Y.Failed x)) h ≡ heard (asking ws (R.Again n)) w
    unfolding reads_plan refusal settle poll_transfer clean word handle plug next heard
    again_bad n w x e = rw e

    pub settle-bad : (n v w : ℕ) → clear 0x8000_0000 w ≡ false → next (refusal bus phase (Y.Failed E.Dma)) h ≡ heard (asking ws (R.AgainDma n v)) w
    unfolding reads_plan refusal ensure word handle plug next heard
    settle-bad n v w e = rw e

    pub settle_goes : (n v w : ℕ) → clear 0x8000_0000 w ≡ true → (clear 0x100 v || not (clear 0x3000 v)) ≡ true
        → next (polling bus phase ws n) h ≡ heard (asking ws (R.AgainDma n v)) w
    unfolding reads_plan polling ensure word handle plug next heard
    settle_goes n v w e f = rw (e, f)

    pub settle_remains : (n v w : ℕ) → clear 0x8000_0000 w ≡ true → (clear 0x100 v || not (clear 0x3000 v)) ≡ false
        → eqb (w % 2 ^ 16) 0 ≡ false → next (refusal bus phase (Y.Failed E.IncompleteTransfer)) h ≡ heard (asking ws (R.AgainDma n v)) w
    unfolding reads_plan refusal drained ensure word handle plug next heard
    settle_remains n v w e f z = rw (e, f, z)

    pub settle-drained : (n v w : ℕ) → clear 0x8000_0000 w ≡ true → (clear 0x100 v || not (clear 0x3000 v)) ≡ false
        → eqb (w % 2 ^ 16) 0 ≡ true → asking ws (R.Count n) ≡ heard (asking ws (R.AgainDma n v)) w
    unfolding reads_plan drained ensure word handle plug next heard
    settle-drained n v w e f z = rw (e, f, z)

    pub count-bad : (n w : ℕ) → eqb w 0 ≡ false → next (refusal bus phase (Y.Failed E.IncompleteTransfer)) h ≡ heard (asking ws (R.Count n)) w
    unfolding reads_plan refusal ensure word handle plug next heard
    count-bad n w e = rw e

    pub count-good : (n w : ℕ) → eqb w 0 ≡ true
        → next (plug (received bus phase) (landed (buffer_of phase ws.sent) (transfer_of phase).words)) h ≡ heard (asking ws (R.Count n)) w
    unfolding reads_plan ensure word handle plug next heard
    count-good n w e = rw e

    take_begins : sends_of phase ≡ false
        → next (taking bus phase 0 (transfer_of phase).words []) h ≡ next (plug (received bus phase) (landed (buffer_of phase ws.sent) (transfer_of phase).words)) h
    unfolding landed plug
    take_begins e = rw e (ap (λ (p : Plan (List ℕ)). next (plug (received bus phase) p) h) (then_give (data_words (transfer_of phase).words)))

    pub lands_reads : sends_of phase ≡ false
        → asking ws (R.Word (top_of phase)) ≡ next (plug (received bus phase) (landed (buffer_of phase ws.sent) (transfer_of phase).words)) h
    unfolding reads_plan
    lands_reads e =
        let some = some_words phase in
        let zeroth : place_of phase (top_of phase) ≡ 0 = omega arith in
        let all : suc (top_of phase - 0) ≡ (transfer_of phase).words = omega arith in
        rw (zeroth, all) (take_begins e)

    -- all words are there
    pub words-end : telling ws (W.Stop St.Mask) ≡ next (plug (received bus phase) (give (all_of phase ws))) h
    unfolding writes_plan ending end_data plug handle
    words-end = ap (λ (rs : List Row). next (plug (stopping bus phase ws) (rows_from rs)) h) all_stop ∙ rw (← stop-rows)

    pub lands_sends : sends_of phase ≡ true
        → telling ws (W.Stop St.Mask) ≡ next (plug (received bus phase) (landed (buffer_of phase ws.sent) (transfer_of phase).words)) h
    unfolding landed
    lands_sends e = words-end ∙ rw e

-- a data word: the next one, or the stop rows
module _ (bus : Bus) (phase : Phase) (h : Line) (ws ws' : Lent) (m w : ℕ)
    (more : take (place_of phase m + 1) ws'.taken ≡ take (place_of phase m) ws.taken ++ (w ∷ [])) where
  abbrev k : ℕ
  k = place_of phase m

  take-goes : (k n : ℕ) (taken : List ℕ)
      → next (taking bus phase (k + 1) n (taken ++ (w ∷ []))) h ≡ heard (next (taking bus phase k (suc n) taken) h) w
  unfolding data_from word handle plug next heard
  take-goes k n taken =
      ap (λ (p : Plan (List ℕ)). next (plug (received bus phase) p) h) (sym (appends (given_of phase) taken w (data_from (k + 1) n)))

  goes : next (taking bus phase (k + 1) (after_of phase m) (take (k + 1) ws'.taken)) h ≡ heard (next (reads_plan bus phase ws (R.Word m)) h) w
  unfolding reads_plan
  goes = ap (λ (l : List ℕ). next (taking bus phase (k + 1) (after_of phase m) l) h) more ∙ take-goes k (after_of phase m) (take k ws.taken)

  pub word-goes : k < top_of phase → next (reads_plan bus phase ws' (R.Word (top_of phase - k - 1))) h ≡ heard (next (reads_plan bus phase ws (R.Word m)) h) w
  unfolding reads_plan
  word-goes small =
      let place : place_of phase (top_of phase - k - 1) ≡ k + 1 = omega arith in
      let left : suc (top_of phase - (k + 1)) ≡ after_of phase m = omega arith in
      ap (λ (i : ℕ). next (taking bus phase i (suc (top_of phase - i)) (take i ws'.taken)) h) place
      ∙ ap (λ (n : ℕ). next (taking bus phase (k + 1) n (take (k + 1) ws'.taken)) h) left ∙ goes

  take_ends : (k : ℕ) (taken : List ℕ) → next (plug (received bus phase) (give (given_of phase taken))) h ≡ next (taking bus phase k 0 taken) h
  unfolding data_from handle plug
  take_ends k taken = ap (λ (x : List ℕ). next (plug (received bus phase) (give (given_of phase x))) h) (sym (append-nil taken))

  pub word-ends : top_of phase ≤ k → next (writes_plan bus phase ws' (W.Stop St.Mask)) h ≡ heard (next (reads_plan bus phase ws (R.Word m)) h) w
  word-ends last =
      let some = some_words phase in
      let none : 0 ≡ after_of phase m = omega arith in
      let all : (transfer_of phase).words ≡ k + 1 = omega arith in
      words-end bus phase h ws'
      ∙ ap (λ (i : ℕ). next (plug (received bus phase) (give (given_of phase (take i ws'.taken)))) h) all
      ∙ take_ends (k + 1) (take (k + 1) ws'.taken)
      ∙ ap (λ (n : ℕ). next (taking bus phase (k + 1) n (take (k + 1) ws'.taken)) h) none ∙ goes

-- what it waits for, and what it does unasked
module _ (bus : Bus) (phase : Phase) (ws : Lent) (h : Line) where
  pub reads_want : (r : Reads) → Wa.Read (reading_at phase r) ≡ want_of (next (reads_plan bus phase ws r) h)
  unfolding reads_plan reading_at idling polling wait_idle until data_complete poll_transfer settle data_from word handle plug next want_of
  reads_want (R.Idle n) = refl
  reads_want (R.First n) = refl
  reads_want (R.FirstDma n v) = refl
  reads_want (R.Again n) = refl
  reads_want (R.AgainDma n v) = refl
  reads_want (R.Count n) = refl
  reads_want (R.Word m) = refl

  reads_wait : (r : Reads) → waits (next (reads_plan bus phase ws r) h) ≡ true
  unfolding reads_plan idling polling wait_idle until data_complete poll_transfer settle data_from word handle plug next waits
  reads_wait (R.Idle n) = refl
  reads_wait (R.First n) = refl
  reads_wait (R.FirstDma n v) = refl
  reads_wait (R.Again n) = refl
  reads_wait (R.AgainDma n v) = refl
  reads_wait (R.Count n) = refl
  reads_wait (R.Word m) = refl

  pub reads-told : (r : Reads) → next (reads_plan bus phase ws r) (line_after (next (reads_plan bus phase ws r) h)) ≡ told (next (reads_plan bus phase ws r) h)
  unfolding reads_plan idling polling wait_idle until data_complete poll_transfer settle data_from word handle plug next told line_after
  reads-told (R.Idle n) = refl
  reads-told (R.First n) = refl
  reads-told (R.FirstDma n v) = refl
  reads-told (R.Again n) = refl
  reads-told (R.AgainDma n v) = refl
  reads-told (R.Count n) = refl
  reads-told (R.Word m) = refl

  -- each of its rows is a row in a context
  record Rowed (t : Writes) : Type 0 where
    rest : Plan (List ℕ)
    same : next (writes_plan bus phase ws t) h ≡ tells h (row_at bus phase h t) rest
    after : next (told_plan bus phase ws t) (noted (row_at bus phase h t) h) ≡ next rest (noted (row_at bus phase h t) h)

  rowed : (t : Writes) → Rowed t
  unfolding writes_plan told_plan row_at unclocked ending start_site order_data rows_from set_clken row handle plug next
  rowed (W.Reset r e) = record { rest = _; same = refl; after = refl }
  rowed (W.Arm a) = record { rest = _; same = refl; after = refl }
  rowed W.Control = record { rest = _; same = refl; after = refl }
  rowed W.Open = record { rest = _; same = refl; after = refl }
  rowed (W.Stop s) = record { rest = _; same = refl; after = refl }
  rowed W.Gate = record { rest = _; same = refl; after = refl }

  pub writes_want : (t : Writes) → Wa.Write (row_at bus phase h t) ≡ want_of (next (writes_plan bus phase ws t) h)
  unfolding want_of
  writes_want t = sym (ap want_of (rowed t).same)

  writes_wait : (t : Writes) → waits (next (writes_plan bus phase ws t) h) ≡ true
  unfolding waits
  writes_wait t = ap waits (rowed t).same

  pub writes-missed : (t : Writes) → next (writes_plan bus phase ws t) h ≡ missed (next (writes_plan bus phase ws t) h)
  unfolding missed
  writes-missed t = (rowed t).same ∙ sym (ap missed (rowed t).same)

  pub writes-heard : (t : Writes) (w : ℕ) → next (writes_plan bus phase ws t) h ≡ heard (next (writes_plan bus phase ws t) h) w
  unfolding heard
  writes-heard t w = (rowed t).same ∙ sym (ap (λ (x : Next (List ℕ)). heard x w) (rowed t).same)

  writes_line : (t : Writes) → line_after (next (writes_plan bus phase ws t) h) ≡ noted (row_at bus phase h t) h
  unfolding line_after
  writes_line t = ap line_after (rowed t).same

  pub writes-gated : (t : Writes) → (line_after (next (writes_plan bus phase ws t) h)).gated ≡ h.gated
  unfolding noted
  writes-gated t = ap (λ (l : Line). l.gated) (writes_line t)

  pub writes-told : (t : Writes) → next (told_plan bus phase ws t) (line_after (next (writes_plan bus phase ws t) h)) ≡ told (next (writes_plan bus phase ws t) h)
  unfolding told
  writes-told t = ap (λ (l : Line). next (told_plan bus phase ws t) l) (writes_line t) ∙ (rowed t).after ∙ sym (ap told (rowed t).same)

  -- a word that is sent is a row too
  abbrev sent_row : ℕ → Row
  sent_row m = record { register = FIFO; value = get_or ws.sent (place_of phase m) 0 }

  sent-row : (m : ℕ) → next (data_plan bus phase ws (D.Sends m)) h ≡ tells h (sent_row m) (sending bus phase ws (place_of phase m + 1) (after_of phase m))
  unfolding data_plan send_from row handle plug next
  sent-row m = refl

  pub sends-line : (m : ℕ) → line_after (next (data_plan bus phase ws (D.Sends m)) h) ≡ h
  unfolding line_after noted
  sends-line m = ap line_after (sent-row m)

  pub sends_want : (m : ℕ) → Wa.Write (sent_row m) ≡ want_of (next (data_plan bus phase ws (D.Sends m)) h)
  unfolding want_of
  sends_want m = sym (ap want_of (sent-row m))

  pub sends-missed : (m : ℕ) → next (data_plan bus phase ws (D.Sends m)) h ≡ missed (next (data_plan bus phase ws (D.Sends m)) h)
  unfolding missed
  sends-missed m = sent-row m ∙ sym (ap missed (sent-row m))

  pub sends-heard : (m : ℕ) (w : ℕ) → next (data_plan bus phase ws (D.Sends m)) h ≡ heard (next (data_plan bus phase ws (D.Sends m)) h) w
  unfolding heard
  sends-heard m w = sent-row m ∙ sym (ap (λ (x : Next (List ℕ)). heard x w) (sent-row m))

  pub sends-told : (m : ℕ)
      → next (sending bus phase ws (place_of phase m + 1) (after_of phase m)) (line_after (next (data_plan bus phase ws (D.Sends m)) h))
      ≡ told (next (data_plan bus phase ws (D.Sends m)) h)
  unfolding told line_after
  sends-told m =
      ap (λ (l : Line). next (sending bus phase ws (place_of phase m + 1) (after_of phase m)) l) (ap line_after (sent-row m)) ∙ sym (ap told (sent-row m))

  -- it always waits for something
  pub data_waits : (d : Data) → waits (next (data_plan bus phase ws d) h) ≡ true
  unfolding data_plan waits
  data_waits (D.Asks r) = reads_wait r
  data_waits (D.Tells t) = writes_wait t
  data_waits (D.Sends m) = ap waits (sent-row m)
  data_waits (D.Start c) = inside-waits (start_site bus phase ws) (command_plan c) h (command-waits c h)
  data_waits (D.Stop c) = inside-waits (stop_site bus phase ws) (command_plan c) h (command-waits c h)
  data_waits (D.Ready r) = inside-waits (ending bus phase ws) (ready_plan bus r) h (ready-waits bus h r)
