-- What follows each step of an initialisation: the rest of the plan after it.
use Rattle.std.specs.Prelude.{Ok, Err, Option, Some, None}
use Prim.Native.Nat.{ℕ, suc, ◌+◌, ◌*◌, ◌/◌, ◌^◌, min}
use mathlib.Core.Path.{◌≡◌, refl, ap, ◌∙◌}
use mathlib.Core.Bool.{Bool, true, false, cond, not, ◌&&◌, ◌||◌}
use mathlib.Core.List.{List}
use native.Mathlib.Omega.{arith}
use lib.Bits.{bit_and}
use lib.Dec.{eqb, ltb}
use lib.ListN.{get_or}
use Rattle.types.specs.Bits.{clear, bits}
use Rattle.types.specs.Leaf.{clock_of, count_of, rate_of}
use Rattle.types.specs.Sd.{wide_of, tran_speed, sd_spec, one_line, four_lines}
use Rattle.types.specs.Words.{halves_of, scr_of}
use Rattle.types.specs.declared.card.Card.{Card}
use Rattle.types.specs.declared.clock.Clock.{Clock}
use Rattle.types.specs.declared.error.Error.{Error}
use Rattle.types.specs.declared.error.Error.TheVariants as E
use Rattle.types.specs.declared.error.Field.TheVariants.{CsdAndOcr, Voltage, AppCommand}
use Rattle.types.specs.declared.register.BlockCount.{BlockCount}
use Rattle.types.specs.declared.status.Scr.{Scr}
use Rattle.tape.specs.declared.progress.Line.{Line}
use Rattle.tape.specs.declared.rows.Row.{Row}
use Rattle.tape.specs.Plan.{Nothing, Plan, give, refuse, fail, handle, ensure, until}
use Rattle.tape.specs.Steps.{row, hold_clock, hold_gated, hold_signalling}
use Rattle.bus.specs.declared.response.Response.TheVariants.{None, R1, R2, R3, R6, R7}
use Rattle.bus.specs.Clock.{configure_clock, clock_delay, delayed}
use Rattle.bus.specs.Command.{app_command}
use Rattle.bus.specs.Ready.{retry_delay}
use Rattle.init.specs.Initialise.{source_of, version, timed_out, late, card_version, power_up, try_power_up, wait_power_up, high_capacity, same, select, publish, identify, read_scr, set_width, set_clock, transfer_clock, switch_speed, ask_switch, take_switch, offered, switched, settle_card}
use Rattle.step.specs.declared.command.Words.{Words}
use Rattle.step.specs.declared.reset.Reset.{Reset}
use Rattle.step.specs.Command.{list_of}
use Rattle.step.specs.Context.{plug}
use Rattle.step.specs.Next.{Next, next, Lent}
use Rattle.step.specs.Reset.{rest_left, step_left}
use Rattle.step.specs.Why.{cause_of}
use Rattle.step.specs.declared.why.Why.{Why}
use Rattle.step.specs.declared.why.Why.TheVariants as Y
use Rattle.step.specs.Rows.{rows_from}
use Rattle.step.specs.Transfer.{transfer_of, all_of, sends_of}
use Rattle.stepping.specs.Closing.{Closing}
use Rattle.stepping.specs.Sites as Sites
use Rattle.stepping.specs.Ahead.{card_by, initial_of, frequency_of, excused, forgiven, phase_of, line_set, reset_on, close_on, rca_of, wait_rca, sent_site, wait_site, gets_site, clock_on, change_site, idling, refusal, powering, writes_plan, told_plan, end_plan, follow_plan}
use Rattle.stepping.specs.declared.call.Change.TheVariants as C
use Rattle.stepping.specs.declared.call.End.TheVariants as Z
use Rattle.stepping.specs.declared.call.Follow.{Follow}
use Rattle.stepping.specs.declared.call.Follow.TheVariants as F
use Rattle.stepping.specs.declared.call.Gets.TheVariants as G
use Rattle.stepping.specs.declared.call.Job.{Job}
use Rattle.stepping.specs.declared.call.Known.{Known}
use Rattle.stepping.specs.declared.call.Sent.{Sent}
use Rattle.stepping.specs.declared.call.Sent.TheVariants as S
use Rattle.stepping.specs.declared.call.Waiting.TheVariants as W
use Rattle.stepping.specs.declared.call.Writes.TheVariants as R

-- what is known, with one thing more
abbrev pub with_ocr : Known → ℕ → Known
with_ocr k x = record { version2 = k.version2; ocr = x; cid = k.cid; rca = k.rca; csd = k.csd; blocks = k.blocks; scr = k.scr; clock = k.clock }

abbrev pub with_cid : Known → Words → Known
with_cid k x = record { version2 = k.version2; ocr = k.ocr; cid = x; rca = k.rca; csd = k.csd; blocks = k.blocks; scr = k.scr; clock = k.clock }

abbrev pub with_rca : Known → ℕ → Known
with_rca k x = record { version2 = k.version2; ocr = k.ocr; cid = k.cid; rca = x; csd = k.csd; blocks = k.blocks; scr = k.scr; clock = k.clock }

abbrev pub with_csd : Known → Words → BlockCount → Known
with_csd k x b = record { version2 = k.version2; ocr = k.ocr; cid = k.cid; rca = k.rca; csd = x; blocks = b; scr = k.scr; clock = k.clock }

abbrev pub with_read : Known → Scr → Known
with_read k x = record { version2 = k.version2; ocr = k.ocr; cid = k.cid; rca = k.rca; csd = k.csd; blocks = k.blocks; scr = x; clock = k.clock }

abbrev pub with_clock : Known → Clock → Known
with_clock k x = record { version2 = k.version2; ocr = k.ocr; cid = k.cid; rca = k.rca; csd = k.csd; blocks = k.blocks; scr = k.scr; clock = x }

module _ (j : Job) (k : Known) (h : Line) where
  abbrev initial : Clock
  initial = initial_of j.asked

  abbrev frequency : ℕ
  frequency = frequency_of j.asked

  abbrev source : ℕ
  source = source_of j.host.settings

  abbrev card : Card
  card = card_by k

  abbrev sent : Sent → Plan (List ℕ) → Next Closing
  sent s p = next (plug (sent_site j k s) p) h

  abbrev follows : Known → Lent → Follow → Next Closing
  follows k ws f = next (follow_plan j k ws f) h

  -- a command that failed: CMD8 forgives Timeout
  pub fails : (ws : Lent) (s : Sent) (e : Why) → forgiven s e ≡ false → follows k ws (F.Refuses e) ≡ sent s (refuse (cause_of e))
  unfolding follow_plan forgiven excused sent_site refusal late handle plug
  fails ws S.Cmd0 e f = refl
  fails ws S.Cmd8 (Y.Failed e) f = rw f
  fails ws S.Cmd8 Y.NoWord f = refl
  fails ws (S.Power55 n) e f = refl
  fails ws (S.Power41 n) e f = refl
  fails ws S.Cmd2 e f = refl
  fails ws S.Cmd3 e f = refl
  fails ws S.Cmd9 e f = refl
  fails ws S.Cmd7 e f = refl
  fails ws S.Cmd16 e f = refl
  fails ws S.Scr55 e f = refl
  fails ws S.Width55 e f = refl
  fails ws S.Width6 e f = refl

  unforgiven : (s : Sent) → forgiven s (Y.Failed E.SoftwareTimeout) ≡ false
  unfolding forgiven excused timed_out
  unforgiven S.Cmd0 = refl
  unforgiven S.Cmd8 = refl
  unforgiven (S.Power55 n) = refl
  unforgiven (S.Power41 n) = refl
  unforgiven S.Cmd2 = refl
  unforgiven S.Cmd3 = refl
  unforgiven S.Cmd9 = refl
  unforgiven S.Cmd7 = refl
  unforgiven S.Cmd16 = refl
  unforgiven S.Scr55 = refl
  unforgiven S.Width55 = refl
  unforgiven S.Width6 = refl

  pub spent : (ws : Lent) (s : Sent) → follows k ws (F.Refuses (Y.Failed E.SoftwareTimeout)) ≡ sent s (fail E.SoftwareTimeout)
  spent ws s = fails ws s (Y.Failed E.SoftwareTimeout) (unforgiven s)

  not_false : false ≡ true → ⊥
  not_false e = let z : ◌≡◌ {A = ℕ} 0 1 = cc in omega arith

  pub forgives : (s : Sent) (e : Why) → forgiven s e ≡ true → next (plug (Sites.begun j.host initial frequency) (give false)) h ≡ sent s (refuse (cause_of e))
  unfolding forgiven excused sent_site late handle plug
  forgives S.Cmd0 e f = absurd (not_false f)
  forgives S.Cmd8 (Y.Failed e) f = rw f
  forgives S.Cmd8 Y.NoWord f = absurd (not_false f)
  forgives (S.Power55 n) e f = absurd (not_false f)
  forgives (S.Power41 n) e f = absurd (not_false f)
  forgives S.Cmd2 e f = absurd (not_false f)
  forgives S.Cmd3 e f = absurd (not_false f)
  forgives S.Cmd9 e f = absurd (not_false f)
  forgives S.Cmd7 e f = absurd (not_false f)
  forgives S.Cmd16 e f = absurd (not_false f)
  forgives S.Scr55 e f = absurd (not_false f)
  forgives S.Width55 e f = absurd (not_false f)
  forgives S.Width6 e f = absurd (not_false f)

  module _ (ws : Lent) where
    -- power-up
    pub powers-over : (v : Bool) → follows k ws (F.Refuses (Y.Failed E.SoftwareTimeout)) ≡ next (powering j v 0) h
    unfolding follow_plan refusal powering until handle plug
    powers-over v = refl

    pub powers-on : (n : ℕ) → follows k ws (F.Sends (S.Power55 n) 55 0 R1) ≡ next (powering j k.version2 (suc n)) h
    unfolding follow_plan sent_site powering until try_power_up power_up app_command handle plug
    powers-on n = refl

    pub powers-all : (v : Bool) → next (powering j v j.host.settings.config.card_ready_attempts) h ≡ next (plug (Sites.begun j.host initial frequency) (give v)) h
    unfolding powering wait_power_up handle plug
    powers-all v = refl

    module _ (w : Words) where
      abbrev came : Sent → Next Closing
      came s = sent s (give (list_of w))

      -- CMD0, CMD8
      pub cmd0-on : follows k ws (F.Sends S.Cmd8 8 0x1aa R7) ≡ came S.Cmd0
      unfolding follow_plan sent_site card_version handle plug
      cmd0-on = refl

      pub version-two : eqb w.a 0x1aa ≡ true → next (plug (Sites.begun j.host initial frequency) (give true)) h ≡ came S.Cmd8
      unfolding sent_site version handle plug
      version-two e = rw e

      pub version-one : eqb w.a 0x1aa ≡ false → eqb (bit_and w.a 0xfdff_e008) 0x0040_0000 ≡ true
          → next (plug (Sites.begun j.host initial frequency) (give false)) h ≡ came S.Cmd8
      unfolding sent_site version ensure handle plug
      version-one e f = rw (e, f)

      pub version-other : eqb w.a 0x1aa ≡ false → eqb (bit_and w.a 0xfdff_e008) 0x0040_0000 ≡ false
          → follows k ws (F.Refuses (Y.Failed E.UnsupportedCardVersion)) ≡ came S.Cmd8
      unfolding follow_plan sent_site refusal version ensure handle plug
      version-other e f = rw (e, f)

      -- ACMD41
      module _ (n : ℕ) where
        pub power_untaken : clear 0x20 w.a ≡ true → follows k ws (F.Refuses (Y.Failed (E.UnsupportedCardType AppCommand))) ≡ came (S.Power55 n)
        unfolding follow_plan sent_site refusal ensure handle plug
        power_untaken e = rw e

        pub power_taken : clear 0x20 w.a ≡ false
            → follows k ws (F.Sends (S.Power41 n) 41 (0x0030_0000 + cond k.version2 0x4000_0000 0) R3) ≡ came (S.Power55 n)
        unfolding follow_plan sent_site ensure handle plug
        power_taken e = rw e

        pub power_none : clear 0x0030_0000 w.a ≡ true → follows k ws (F.Refuses (Y.Failed (E.UnsupportedCardType Voltage))) ≡ came (S.Power41 n)
        unfolding follow_plan sent_site refusal ensure handle plug
        power_none e = rw e

        pub power-up : clear 0x0030_0000 w.a ≡ false → clear 0x8000_0000 w.a ≡ false → follows (with_ocr k w.a) ws (F.Sends S.Cmd2 2 0 R2) ≡ came (S.Power41 n)
        unfolding follow_plan sent_site identify ensure handle plug
        power-up e f = rw (e, f, f)

        pub power_down : clear 0x0030_0000 w.a ≡ false → clear 0x8000_0000 w.a ≡ true → follows k ws (F.Tells (R.Retry n)) ≡ came (S.Power41 n)
        unfolding follow_plan sent_site writes_plan retry_delay row ensure handle plug
        power_down e f = rw (e, f, f)

      -- identification
      pub cmd2-on : follows (with_cid k w) ws (F.Sends S.Cmd3 3 0 R6) ≡ came S.Cmd2
      unfolding follow_plan sent_site publish handle plug
      cmd2-on = refl

      pub address-none : eqb (w.a / 2 ^ 16) 0 ≡ true → follows k ws (F.Refuses (Y.Failed E.ResponseMismatch)) ≡ came S.Cmd3
      unfolding follow_plan sent_site refusal ensure handle plug
      address-none e = rw e

      pub address-known : eqb (w.a / 2 ^ 16) 0 ≡ false → follows (with_rca k (w.a / 2 ^ 16)) ws (F.Sends S.Cmd9 9 (w.a / 2 ^ 16 * 2 ^ 16) R2) ≡ came S.Cmd3
      unfolding follow_plan sent_site ensure handle plug
      address-known e = rw e

      abbrev told : ℕ
      told = wide_of (halves_of (list_of w))

      pub csd_other : same (high_capacity k.ocr) (eqb (bits told 127 126) 1) ≡ false → follows k ws (F.Refuses (Y.Failed (E.UnsupportedCardType CsdAndOcr))) ≡ came S.Cmd9
      unfolding follow_plan sent_site refusal select ensure handle plug
      csd_other e = rw e

      pub csd_bad : (x : Error) → same (high_capacity k.ocr) (eqb (bits told 127 126) 1) ≡ true → count_of told ≡ Err x
          → follows k ws (F.Refuses (Y.Failed x)) ≡ came S.Cmd9
      unfolding follow_plan sent_site refusal select ensure handle plug
      csd_bad x e f = rw (e, f)

      pub csd_known : (blocks : BlockCount) → same (high_capacity k.ocr) (eqb (bits told 127 126) 1) ≡ true → count_of told ≡ Ok blocks
          → follows (with_csd k w blocks) ws (F.Sends S.Cmd7 7 (k.rca * 2 ^ 16) R1) ≡ came S.Cmd9
      unfolding follow_plan sent_site select ensure handle plug
      csd_known blocks e f = rw (e, f)

      -- the SCR, the width
      pub cmd7-on : follows k ws (F.Waits W.Selected) ≡ came S.Cmd7
      unfolding follow_plan sent_site wait_site wait_rca settle_card read_scr handle plug
      cmd7-on = refl

      pub cmd16-on : follows k ws (F.Sends S.Scr55 55 (k.rca * 2 ^ 16) R1) ≡ came S.Cmd16
      unfolding follow_plan sent_site app_command handle plug
      cmd16-on = refl

      pub scr-untaken : clear 0x20 w.a ≡ true → follows k ws (F.Refuses (Y.Failed (E.UnsupportedCardType AppCommand))) ≡ came S.Scr55
      unfolding follow_plan sent_site refusal ensure handle plug
      scr-untaken e = rw e

      pub scr-taken : clear 0x20 w.a ≡ false → follows k ws (F.Gets G.Scr) ≡ came S.Scr55
      unfolding follow_plan sent_site gets_site rca_of phase_of transfer_of sends_of ensure handle plug
      scr-taken e = rw e

      pub width-untaken : clear 0x20 w.a ≡ true → follows k ws (F.Refuses (Y.Failed (E.UnsupportedCardType AppCommand))) ≡ came S.Width55
      unfolding follow_plan sent_site refusal ensure handle plug
      width-untaken e = rw e

      pub width-taken : clear 0x20 w.a ≡ false → follows k ws (F.Sends S.Width6 6 (cond j.host.settings.wide 2 0) R1) ≡ came S.Width55
      unfolding follow_plan sent_site ensure handle plug
      width-taken e = rw e

      pub width-set : next (plug (Sites.widened j.host initial frequency card k.scr) (give tt)) h ≡ came S.Width6
      unfolding sent_site handle plug
      width-set = refl

    pub scr-fits : (s : Scr) (l : List ℕ) → s.0 ≡ scr_of (get_or l 0 0) (get_or l 1 0) → (one_line s.0 && (not j.host.settings.wide || four_lines s.0)) ≡ true
        → follows (with_read k s) ws (F.Sends S.Width55 55 (k.rca * 2 ^ 16) R1) ≡ next (plug (gets_site j k G.Scr) (give l)) h
    unfolding follow_plan sent_site gets_site set_width app_command ensure handle plug
    scr-fits s l is e = rw (← is, e)

    pub scr-narrow : (s : Scr) (l : List ℕ) → s.0 ≡ scr_of (get_or l 0 0) (get_or l 1 0) → (one_line s.0 && (not j.host.settings.wide || four_lines s.0)) ≡ false
        → follows k ws (F.Refuses (Y.Failed E.UnsupportedBusWidth)) ≡ next (plug (gets_site j k G.Scr) (give l)) h
    unfolding follow_plan gets_site refusal set_width ensure handle plug
    scr-narrow s l is e = rw (← is, e)

    -- the transfer clock
    pub rate-bad : (x : Error) → rate_of (tran_speed (wide_of (halves_of (list_of k.csd)))) ≡ Err x
        → follows k ws (F.Refuses (Y.Failed x)) ≡ next (plug (Sites.widened j.host initial frequency card k.scr) (give tt)) h
    unfolding follow_plan refusal transfer_clock handle plug
    rate-bad x e = rw e

    pub rate-good : (rate : ℕ) → rate_of (tran_speed (wide_of (halves_of (list_of k.csd)))) ≡ Ok rate
        → next (plug (Sites.clock_set j.host initial frequency card k.scr) (set_clock j.host.settings (min (min frequency 25_000_000) rate))) h
        ≡ next (plug (Sites.widened j.host initial frequency card k.scr) (give tt)) h
    unfolding transfer_clock handle plug
    rate-good rate e = rw e

    pub clock-bad : (x : Error) (requested : ℕ) → clock_of source requested j.host.settings.config.allow_clock_bypass ≡ Err x
        → follows k ws (F.Refuses (Y.Failed x)) ≡ next (plug (Sites.clock_set j.host initial frequency card k.scr) (set_clock j.host.settings requested)) h
    unfolding follow_plan refusal set_clock handle plug
    clock-bad x requested e = rw e

    pub clock-good : (clock : Clock) (requested : ℕ) → clock_of source requested j.host.settings.config.allow_clock_bypass ≡ Ok clock
        → follows (with_clock k clock) ws (F.Idles C.Transfer) ≡ next (plug (Sites.clock_set j.host initial frequency card k.scr) (set_clock j.host.settings requested)) h
    unfolding follow_plan idling clock_on change_site set_clock configure_clock handle plug
    clock-good clock requested e = rw e

    -- the clock of SDR25
    pub speed_bad : (x : Error) → clock_of source (min frequency 50_000_000) j.host.settings.config.allow_clock_bypass ≡ Err x
        → follows k ws (F.Refuses (Y.Failed x)) ≡ next (plug (Sites.switch_delay j.host initial frequency card k.scr) (give tt)) h
    unfolding follow_plan refusal set_clock handle plug
    speed_bad x e = rw e

    pub speed_good : (clock : Clock) → clock_of source (min frequency 50_000_000) j.host.settings.config.allow_clock_bypass ≡ Ok clock
        → follows (with_clock k clock) ws (F.Idles C.Switch) ≡ next (plug (Sites.switch_delay j.host initial frequency card k.scr) (give tt)) h
    unfolding follow_plan idling clock_on change_site set_clock configure_clock handle plug
    speed_good clock e = rw e

    -- a clock is set
    pub clock-initial : next (follow_plan j k ws (F.Tells R.Power)) (line_set k (R.Clock C.Initial) h) ≡ next (told_plan j k (R.Clock C.Initial)) h
    unfolding follow_plan writes_plan told_plan line_set change_site handle plug
    clock-initial = refl

    pub clock_fast : (ltb 25_000_000 frequency && not (eqb (sd_spec k.scr.0) 0)) ≡ true
        → next (follow_plan j k ws (F.Gets G.Check)) (line_set k (R.Clock C.Transfer) h) ≡ next (told_plan j k (R.Clock C.Transfer)) h
    unfolding follow_plan told_plan line_set change_site gets_site rca_of phase_of transfer_of sends_of hold_clock hold_gated switch_speed ask_switch handle plug next
    clock_fast e = rw e

    pub clock-slow : (ltb 25_000_000 frequency && not (eqb (sd_spec k.scr.0) 0)) ≡ false
        → next (follow_plan j k ws (F.Over Z.Found)) (line_set k (R.Clock C.Transfer) h) ≡ next (told_plan j k (R.Clock C.Transfer)) h
    unfolding follow_plan end_plan told_plan line_set change_site hold_clock hold_gated switch_speed handle plug next
    clock-slow e = rw e

    pub clock_switch : next (follow_plan j k ws (F.Over Z.Found)) (line_set k (R.Clock C.Switch) h) ≡ next (told_plan j k (R.Clock C.Switch)) h
    unfolding follow_plan end_plan told_plan line_set change_site hold_clock hold_gated hold_signalling handle plug next
    clock_switch = refl

    -- the switch
    pub check_offers : (l : List ℕ) → offered l ≡ true → follows k ws (F.Gets G.Switch) ≡ next (plug (gets_site j k G.Check) (give l)) h
    unfolding follow_plan gets_site rca_of phase_of transfer_of sends_of take_switch handle plug
    check_offers l e = rw e

    pub check_declines : (l : List ℕ) → offered l ≡ false → follows k ws (F.Over Z.Found) ≡ next (plug (gets_site j k G.Check) (give l)) h
    unfolding follow_plan end_plan gets_site handle plug
    check_declines l e = rw e

    pub switch_failed : (l : List ℕ) → switched l ≡ false → follows k ws (F.Refuses (Y.Failed E.SignalingSwitchFailed)) ≡ next (plug (gets_site j k G.Switch) (give l)) h
    unfolding follow_plan gets_site refusal ensure handle plug
    switch_failed l e = rw e

    switch_done : (l : List ℕ) → switched l ≡ true
        → next (plug (Sites.switch_delay j.host initial frequency card k.scr) (clock_delay source h.clock.0 8)) h ≡ next (plug (gets_site j k G.Switch) (give l)) h
    unfolding gets_site ensure handle plug next
    switch_done l e = rw e

    pub switch_spins : (l : List ℕ) (v : ℕ) → switched l ≡ true → delayed (Ok v) ≡ clock_delay source h.clock.0 8
        → follows k ws (F.Tells (R.Settle v)) ≡ next (plug (gets_site j k G.Switch) (give l)) h
    unfolding follow_plan writes_plan delayed
    switch_spins l v e d = ap (λ (p : Plan Nothing). next (plug (Sites.switch_delay j.host initial frequency card k.scr) p) h) d ∙ switch_done l e

    pub switch_refused : (l : List ℕ) (x : Error) → switched l ≡ true → delayed (Err x) ≡ clock_delay source h.clock.0 8
        → follows k ws (F.Refuses (Y.Failed x)) ≡ next (plug (gets_site j k G.Switch) (give l)) h
    unfolding follow_plan refusal delayed handle plug
    switch_refused l x e d = ap (λ (p : Plan Nothing). next (plug (Sites.switch_delay j.host initial frequency card k.scr) p) h) d ∙ switch_done l e

    pub own-got : (l : Lent) → follows k l (F.Over Z.Accepted) ≡ next (plug (gets_site j k G.Asked) (give (all_of (phase_of j.asked G.Asked) l))) h
    unfolding follow_plan end_plan gets_site phase_of handle plug
    own-got l = refl

    -- 80 cycles of the initial clock
    pub open_spins : (v : ℕ) → delayed (Ok v) ≡ clock_delay source initial.frequency.0 80
        → follows k ws (F.Tells (R.Delay v)) ≡ next (plug (Sites.opened j.host initial frequency) (give tt)) h
    unfolding follow_plan writes_plan delayed handle plug
    open_spins v e = ap (λ (p : Plan Nothing). next (plug (Sites.powered_on j.host initial frequency) p) h) e

    pub open_refused : (x : Error) → delayed (Err x) ≡ clock_delay source initial.frequency.0 80
        → follows k ws (F.Refuses (Y.Failed x)) ≡ next (plug (Sites.opened j.host initial frequency) (give tt)) h
    unfolding follow_plan refusal delayed handle plug
    open_refused x e = ap (λ (p : Plan Nothing). next (plug (Sites.powered_on j.host initial frequency) p) h) e

    -- after a row
    pub reset-on : (r : Reset) (s : Option Reset) → step_left s ≡ rest_left r → follows k ws (reset_on s) ≡ next (told_plan j k (R.Reset r)) h
    unfolding follow_plan reset_on writes_plan idling clock_on change_site told_plan step_left rows_from configure_clock handle plug
    reset-on r (Some r') p = ap (λ (rs : List Row). next (plug (Sites.resetting j.host initial frequency) (rows_from rs)) h) p
    reset-on r None p = ap (λ (rs : List Row). next (plug (Sites.resetting j.host initial frequency) (rows_from rs)) h) p

    pub close-on : (r : Reset) (e : Why) (s : Option Reset) → step_left s ≡ rest_left r → follows k ws (close_on s e) ≡ next (told_plan j k (R.Close r e)) h
    unfolding follow_plan close_on writes_plan end_plan told_plan step_left rows_from handle plug
    close-on r e (Some r') p = ap (λ (rs : List Row). next (plug (Sites.refused j.host initial frequency e) (rows_from rs)) h) p
    close-on r e None p = ap (λ (rs : List Row). next (plug (Sites.refused j.host initial frequency e) (rows_from rs)) h) p

    pub power-on : follows k ws (F.Tells R.Open) ≡ next (told_plan j k R.Power) h
    unfolding follow_plan writes_plan told_plan handle plug
    power-on = refl

    pub delay-on : (v : ℕ) → follows k ws (F.Sends S.Cmd0 0 0 None) ≡ next (told_plan j k (R.Delay v)) h
    unfolding follow_plan sent_site told_plan handle plug
    delay-on v = refl
