-- Where a call stands by what follows: the same is ahead of it.
use Rattle.std.specs.Prelude.{Some, None, Ok, Err}
use Prim.Native.Nat.{ℕ, suc, ◌*◌, ◌^◌}
use mathlib.Core.Path.{◌≡◌, refl, ap, sym, ◌∙◌}
use mathlib.Core.Bool.{Bool, true, false}
use mathlib.Core.List.{List}
use Rattle.types.specs.Bits.{clear}
use Rattle.types.specs.declared.card.CardCapacity.TheVariants.{SDSC, SDHC}
use Rattle.types.specs.declared.error.Error.TheVariants as E
use Rattle.types.specs.declared.error.Field.TheVariants.{AppCommand}
use Rattle.tape.specs.declared.progress.Line.{Line}
use Rattle.tape.specs.declared.rows.Row.{Row}
use Rattle.tape.specs.Plan.{give, refuse, fail, handle, ensure, until}
use Rattle.tape.specs.Steps.{word, row, wait_idle, reset_controller}
use Rattle.bus.specs.declared.response.Response.{Response}
use Rattle.bus.specs.declared.response.Response.TheVariants.{R1}
use Rattle.bus.specs.Command.{command, app_command}
use Rattle.bus.specs.Ready.{wait_ready}
use Rattle.init.specs.Initialise.{class_of, high_capacity, block_length}
use Rattle.step.specs.declared.command.Command.{Command}
use Rattle.step.specs.declared.why.Step.TheVariants as St
use Rattle.step.specs.declared.command.Words.{Words}
use Rattle.step.specs.declared.ready.Ready.{Ready}
use Rattle.step.specs.declared.reset.Reset.TheVariants as Re
use Rattle.step.specs.declared.transfer.Data.{Data}
use Rattle.step.specs.Command.{command_plan, command_next, end_next, list_of, begun_plan, begun_next}
use Rattle.step.specs.Context.{plug, plug_next, next_plug}
use Rattle.step.specs.Next.{Next, next, heard, missed, Lent}
use Rattle.step.specs.Ready.{ready_plan, ready_next, waits_next}
use Rattle.step.specs.Why.{cause_of}
use Rattle.step.specs.declared.why.Why.{Why}
use Rattle.step.specs.declared.why.Why.TheVariants as Y
use Rattle.step.specs.Reset.{all_rows}
use Rattle.step.specs.Rows.{rows_from, reset_rows}
use Rattle.step.specs.Transfer.{all_of, phase_plan, data_plan, data_next}
use Rattle.step.proofs.Inside.{same-plug}
use Rattle.step.proofs.Parts as parts
use Rattle.stepping.specs.Closing.{Closing}
use Rattle.stepping.specs.Sites as Sites
use Rattle.stepping.specs.Ahead.{initial_of, frequency_of, phase_of, limit_at, bus_with, words_in, refusal, rca_of, wait_rca, sent_site, site_of, wait_site, gets_site, clock_on, change_site, idling, writes_plan, end_plan, follow_plan, at_plan}
use Rattle.stepping.specs.declared.call.At.TheVariants as A
use Rattle.stepping.specs.declared.call.Change.{Change}
use Rattle.stepping.specs.declared.call.Change.TheVariants as Ch
use Rattle.stepping.specs.declared.call.End.TheVariants as Z
use Rattle.stepping.specs.declared.call.Follow.{Follow}
use Rattle.stepping.specs.declared.call.Follow.TheVariants as F
use Rattle.stepping.specs.declared.call.Gets.{Gets}
use Rattle.stepping.specs.declared.call.Gets.TheVariants as G
use Rattle.stepping.specs.declared.call.Job.{Job}
use Rattle.stepping.specs.declared.call.Known.{Known}
use Rattle.stepping.specs.declared.call.Sent.{Sent}
use Rattle.stepping.specs.declared.call.Sent.TheVariants as S
use Rattle.stepping.specs.declared.call.Site.{Site}
use Rattle.stepping.specs.declared.call.Site.TheVariants as T
use Rattle.stepping.specs.declared.call.Waiting.{Waiting}
use Rattle.stepping.specs.declared.call.Waiting.TheVariants as W
use Rattle.stepping.specs.declared.call.Writes.TheVariants as R
use Rattle.stepping.proofs.Follows as F'

reset-rows : reset_controller ≡ rows_from reset_rows
unfolding reset_controller row handle rows_from
reset-rows = refl

module _ (j : Job) (k : Known) (h : Line) where
  abbrev follows : Lent → Follow → Next Closing
  follows ws f = next (follow_plan j k ws f) h

  -- a ready wait that is over
  pub ready_read : (ws : Lent) → follows ws (F.Gets G.Asked) ≡ next (plug (wait_site j k ws.sent W.Blocks) (give tt)) h
  unfolding follow_plan wait_site gets_site rca_of phase_of handle plug
  ready_read ws = refl

  pub ready-standard : (ws : Lent) → class_of (high_capacity k.ocr) ≡ SDSC → follows ws (F.Sends S.Cmd16 16 512 R1) ≡ next (plug (wait_site j k ws.sent W.Selected) (give tt)) h
  unfolding follow_plan wait_site sent_site block_length handle plug
  ready-standard ws e = rw e

  pub ready-high : (ws : Lent) → class_of (high_capacity k.ocr) ≡ SDHC → follows ws (F.Sends S.Scr55 55 (k.rca * 2 ^ 16) R1) ≡ next (plug (wait_site j k ws.sent W.Selected) (give tt)) h
  unfolding follow_plan wait_site sent_site block_length app_command handle plug
  ready-high ws e = rw e

  pub unready_read : (ws : Lent) (e : Why) → follows ws (F.Over (Z.Keeping e)) ≡ next (plug (wait_site j k ws.sent W.Blocks) (refuse (cause_of e))) h
  unfolding follow_plan end_plan wait_site handle plug
  unready_read ws e = refl

  pub unready_selected : (ws : Lent) (e : Why) → follows ws (F.Refuses e) ≡ next (plug (wait_site j k ws.sent W.Selected) (refuse (cause_of e))) h
  unfolding follow_plan refusal wait_site handle plug
  unready_selected ws e = refl

  -- CMD55 of a status call
  pub app-untaken : (ws : Lent) (w : Words) → clear 0x20 w.a ≡ true → follows ws (F.Over (Z.Keeping (Y.Failed (E.UnsupportedCardType AppCommand)))) ≡ next (plug (site_of j k ws.sent T.App) (give (list_of w))) h
  unfolding follow_plan end_plan site_of ensure handle plug
  app-untaken ws w e = rw e

  pub app-taken : (ws : Lent) (w : Words) → clear 0x20 w.a ≡ false → follows ws (F.Gets G.Asked) ≡ next (plug (site_of j k ws.sent T.App) (give (list_of w))) h
  unfolding follow_plan site_of gets_site rca_of phase_of ensure handle plug
  app-taken ws w e = rw e

  pub app-failed : (ws : Lent) (e : Why) → follows ws (F.Over (Z.Keeping e)) ≡ next (plug (site_of j k ws.sent T.App) (refuse (cause_of e))) h
  unfolding follow_plan end_plan site_of handle plug
  app-failed ws e = refl

  pub init_site : (ws : Lent) (s : Sent) (p : Words) → next (plug (sent_site j k s) (give (list_of p))) h ≡ next (plug (site_of j k ws.sent (T.Init s)) (give (list_of p))) h
  unfolding site_of
  init_site ws s p = refl

  pub init_failed : (ws : Lent) (s : Sent) (e : Why) → next (plug (sent_site j k s) (refuse (cause_of e))) h ≡ next (plug (site_of j k ws.sent (T.Init s)) (refuse (cause_of e))) h
  unfolding site_of
  init_failed ws s e = refl

  module _ (held : List ℕ) (g : Lent) where
    -- a refusal: the reset rows of its guard
    pub closes : (e : Why) → next (at_plan j k held g (A.Tells (R.Close Re.Mask e))) h ≡ next (refusal j e) h
    unfolding at_plan writes_plan refusal plug handle
    closes e =
        ap (λ (rs : List Row). next (plug (Sites.refused j.host (initial_of j.asked) (frequency_of j.asked) e) (rows_from rs)) h) all_rows ∙ rw (← reset-rows)

    -- a command at its start
    module _ (s : Sent) (index argument : ℕ) (response : Response) (gated : Bool) (gate : h.gated ≡ gated) where
      begins : next (plug (sent_site j k s) (begun_plan (limit_at j) index argument response gated)) h ≡ next (plug (sent_site j k s) (command (limit_at j) index argument response)) h
      begins = same-plug (sent_site j k s) _ _ h (parts.begins (limit_at j) index argument response gated h (sym gate))

      pub sends-on : (c : Command) → begun_next (Some c) h ≡ next (begun_plan (limit_at j) index argument response gated) h
          → next (at_plan j k held g (A.Command (T.Init s) c)) h ≡ next (plug (sent_site j k s) (command (limit_at j) index argument response)) h
      unfolding at_plan site_of begun_next
      sends-on c e = same-plug (sent_site j k s) _ _ h e ∙ begins

      pub sends-spent : begun_next None h ≡ next (begun_plan (limit_at j) index argument response gated) h
          → next (refusal j (Y.Failed E.SoftwareTimeout)) h ≡ next (plug (sent_site j k s) (command (limit_at j) index argument response)) h
      unfolding begun_next follow_plan
      sends-spent e =
          F'.spent j k h g s
          ∙ same-plug (sent_site j k s) (fail E.SoftwareTimeout) (begun_plan (limit_at j) index argument response gated) h e ∙ begins

    -- a ready wait at its start
    pub waits-on : (w : Waiting) (r : Ready) → waits_next (bus_with j (wait_rca j k w)) (Some r) h ≡ next (wait_ready j.host.settings.source.0 j.host.settings.config (wait_rca j k w)) h
        → next (at_plan j k held g (A.Ready w r)) h ≡ next (plug (wait_site j k g.sent w) (wait_ready j.host.settings.source.0 j.host.settings.config (wait_rca j k w))) h
    unfolding at_plan waits_next
    waits-on w r e = same-plug (wait_site j k g.sent w) _ _ h e

    waits-spent : (w : Waiting) → waits_next (bus_with j (wait_rca j k w)) None h ≡ next (wait_ready j.host.settings.source.0 j.host.settings.config (wait_rca j k w)) h
        → next (plug (wait_site j k g.sent w) (fail E.SoftwareTimeout)) h ≡ next (plug (wait_site j k g.sent w) (wait_ready j.host.settings.source.0 j.host.settings.config (wait_rca j k w))) h
    unfolding waits_next next
    waits-spent w e = same-plug (wait_site j k g.sent w) (fail E.SoftwareTimeout) (wait_ready j.host.settings.source.0 j.host.settings.config (wait_rca j k w)) h e

    pub waits_read : waits_next (bus_with j (wait_rca j k W.Blocks)) None h ≡ next (wait_ready j.host.settings.source.0 j.host.settings.config (wait_rca j k W.Blocks)) h
        → next (at_plan j k held g (A.Over (Z.Keeping (Y.Failed E.SoftwareTimeout)))) h ≡ next (plug (wait_site j k g.sent W.Blocks) (wait_ready j.host.settings.source.0 j.host.settings.config (wait_rca j k W.Blocks))) h
    unfolding at_plan follow_plan
    waits_read e = unready_read (words_in j G.Asked held g) (Y.Failed E.SoftwareTimeout) ∙ waits-spent W.Blocks e

    pub waits-selected : waits_next (bus_with j (wait_rca j k W.Selected)) None h ≡ next (wait_ready j.host.settings.source.0 j.host.settings.config (wait_rca j k W.Selected)) h
        → next (refusal j (Y.Failed E.SoftwareTimeout)) h ≡ next (plug (wait_site j k g.sent W.Selected) (wait_ready j.host.settings.source.0 j.host.settings.config (wait_rca j k W.Selected))) h
    unfolding follow_plan
    waits-selected e = unready_selected g (Y.Failed E.SoftwareTimeout) ∙ waits-spent W.Selected e

    -- an idle wait before a clock row
    pub idle-over : (c : Change) → next (refusal j (Y.Failed E.SoftwareTimeout)) h ≡ next (idling j k c 0) h
    unfolding refusal idling clock_on change_site wait_idle until row handle plug
    idle-over Ch.Initial = refl
    idle-over Ch.Transfer = refl
    idle-over Ch.Switch = refl

    -- where no status word will come
    pub idle-missed : (c : Change) (n : ℕ) → next (refusal j Y.NoWord) h ≡ missed (next (at_plan j k held g (A.Idle c n)) h)
    unfolding at_plan refusal idling clock_on change_site wait_idle until word row handle plug next missed
    idle-missed Ch.Initial n = refl
    idle-missed Ch.Transfer n = refl
    idle-missed Ch.Switch n = refl

    pub idle-goes : (c : Change) (n : ℕ) → next (at_plan j k held g (A.Idle c n)) h ≡ next (idling j k c (suc n)) h
    unfolding at_plan
    idle-goes c n = refl

    pub idle-on : (c : Change) (n w : ℕ) → clear 0x3800 w ≡ false → next (idling j k c n) h ≡ heard (next (idling j k c (suc n)) h) w
    unfolding idling clock_on change_site wait_idle until word row handle plug next heard
    idle-on Ch.Initial n w e = rw e
    idle-on Ch.Transfer n w e = rw e
    idle-on Ch.Switch n w e = rw e

    pub idle-ends : (c : Change) (n w : ℕ) → clear 0x3800 w ≡ true → next (at_plan j k held g (A.Tells (R.Clock c))) h ≡ heard (next (idling j k c (suc n)) h) w
    unfolding at_plan writes_plan idling clock_on change_site wait_idle until word row handle plug next heard
    idle-ends Ch.Initial n w e = rw e
    idle-ends Ch.Transfer n w e = rw e
    idle-ends Ch.Switch n w e = rw e

    -- a data phase at its start
    pub gets_on : (gets : Gets) (d : Data) → ((ws : Lent) (h : Line) → next (data_plan (bus_with j (rca_of j k gets)) (phase_of j.asked gets) ws d) h ≡ next (phase_plan (bus_with j (rca_of j k gets)) (phase_of j.asked gets) ws.sent) h)
        → next (at_plan j k held g (A.Data gets d)) h ≡ next (plug (gets_site j k gets) (phase_plan (bus_with j (rca_of j k gets)) (phase_of j.asked gets) g.sent)) h
    unfolding at_plan
    gets_on gets d e = same-plug (gets_site j k gets) _ _ h (e (words_in j gets held g) h)

    -- a part after an answer
    pub command-on : (s : Site) (c : Command) → next (at_plan j k held g (A.Command s c)) h ≡ plug_next (site_of j k g.sent s) (command_next (St.On c) h)
    unfolding at_plan command_next
    command-on s c = next_plug (site_of j k g.sent s) (command_plan c) h

    pub command_well : (s : Site) (w : Words) → next (plug (site_of j k g.sent s) (give (list_of w))) h ≡ plug_next (site_of j k g.sent s) (command_next (St.Over (Ok w)) h)
    unfolding command_next end_next plug_next next
    command_well s w = refl

    pub command_badly : (s : Site) (e : Why) → next (plug (site_of j k g.sent s) (refuse (cause_of e))) h ≡ plug_next (site_of j k g.sent s) (command_next (St.Over (Err e)) h)
    unfolding command_next end_next plug_next next
    command_badly s e = refl

    pub ready_on : (w : Waiting) (r : Ready) → next (at_plan j k held g (A.Ready w r)) h ≡ plug_next (wait_site j k g.sent w) (ready_next (bus_with j (wait_rca j k w)) (St.On r) h)
    unfolding at_plan ready_next
    ready_on w r = next_plug (wait_site j k g.sent w) (ready_plan (bus_with j (wait_rca j k w)) r) h

    pub ready-done : (w : Waiting) → next (plug (wait_site j k g.sent w) (give tt)) h ≡ plug_next (wait_site j k g.sent w) (ready_next (bus_with j (wait_rca j k w)) (St.Over (Ok tt)) h)
    unfolding ready_next plug_next
    ready-done w = refl

    pub ready-failed : (w : Waiting) (e : Why) → next (plug (wait_site j k g.sent w) (refuse (cause_of e))) h ≡ plug_next (wait_site j k g.sent w) (ready_next (bus_with j (wait_rca j k w)) (St.Over (Err e)) h)
    unfolding ready_next plug_next
    ready-failed w e = refl

    pub data_on : (gets : Gets) (d : Data) → next (at_plan j k held g (A.Data gets d)) h
        ≡ plug_next (gets_site j k gets) (data_next (bus_with j (rca_of j k gets)) (phase_of j.asked gets) (words_in j gets held g) (St.On d) h)
    unfolding at_plan data_next
    data_on gets d = next_plug (gets_site j k gets) (data_plan (bus_with j (rca_of j k gets)) (phase_of j.asked gets) (words_in j gets held g) d) h

    pub data_done : (gets : Gets) → next (plug (gets_site j k gets) (give (all_of (phase_of j.asked gets) (words_in j gets held g)))) h
        ≡ plug_next (gets_site j k gets) (data_next (bus_with j (rca_of j k gets)) (phase_of j.asked gets) (words_in j gets held g) (St.Over (Ok tt)) h)
    unfolding data_next plug_next
    data_done gets = refl

    pub data_failed : (gets : Gets) (e : Why) → next (plug (gets_site j k gets) (refuse (cause_of e))) h
        ≡ plug_next (gets_site j k gets) (data_next (bus_with j (rca_of j k gets)) (phase_of j.asked gets) (words_in j gets held g) (St.Over (Err e)) h)
    unfolding data_next plug_next
    data_failed gets e = refl
