-- A call at its start: what is ahead of it there is its one plan.
use Rattle.std.specs.Prelude.{Result, Ok, Err, Some, None}
use Prim.Native.Nat.{ℕ, ◌*◌, ◌/◌, ◌^◌, ◌≤◌}
use mathlib.Core.Path.{◌≡◌, refl, ap, sym, ◌∙◌}
use mathlib.Core.Bool.{Bool, true, false, cond}
use mathlib.Core.List.{List}
use native.Mathlib.Omega.{arith}
use Rattle.types.specs.declared.clock.Clock.{Clock}
use Rattle.types.specs.declared.error.Error.{Error}
use Rattle.types.specs.declared.error.Error.TheVariants as E
use Rattle.tape.specs.declared.progress.Line.{Line}
use Rattle.tape.specs.declared.rows.Row.{Row}
use Rattle.tape.specs.Plan.{Plan, failed, fail, handle}
use Rattle.tape.specs.Steps.{row, reset_controller}
use Rattle.bus.specs.declared.response.Response.TheVariants.{R1}
use Rattle.bus.specs.Command.{command, app_command}
use Rattle.bus.specs.Ready.{wait_ready}
use Rattle.init.specs.Initialise.{power_on, begin_init, init_card, initialise}
use Rattle.bus.specs.Transfer.{Buffer, incoming, outgoing}
use Rattle.host.specs.declared.host.Sdmmc.{Sdmmc}
use Rattle.host.specs.Calls.{fresh_line, blocks_judged, sends}
use Rattle.host.proofs.Ran.{judged-good}
use Rattle.step.specs.declared.command.Command.{Command}
use Rattle.step.specs.declared.reset.Reset.TheVariants as Re
use Rattle.step.specs.Command.{begun_plan, begun_next}
use Rattle.step.specs.Context.{whole, inside, plug}
use Rattle.step.specs.declared.why.Why.TheVariants as Y
use Rattle.step.specs.Next.{next, Lent}
use Rattle.step.specs.Reset.{rows_left, all_rows}
use Rattle.step.specs.Rows.{rows_from, reset_rows}
use Rattle.step.specs.Transfer.{blocks_of, transfer_of, phase_plan, sends_of}
use Rattle.step.proofs.Inside.{same-plug}
use Rattle.step.proofs.Parts as parts
use Rattle.stepping.specs.Closing.{Closing, keeping, dropping, accepting}
use Rattle.stepping.specs.Sites as Sites
use Rattle.stepping.specs.Ahead.{initial_of, frequency_of, phase_by, host_by, limit_at, bus_with, wait_rca, site_of, wait_site, writes_plan, end_plan, at_plan}
use Rattle.stepping.specs.declared.call.Asked.{Asked}
use Rattle.stepping.specs.declared.call.Asked.TheVariants as Q
use Rattle.stepping.specs.declared.call.At.TheVariants as A
use Rattle.stepping.specs.declared.call.End.TheVariants as Z
use Rattle.stepping.specs.declared.call.Job.{Job}
use Rattle.stepping.specs.declared.call.Known.{Known}
use Rattle.stepping.specs.declared.call.Site.TheVariants as T
use Rattle.stepping.specs.declared.call.Waiting.TheVariants as W
use Rattle.stepping.specs.declared.call.Writes.TheVariants as R
use Rattle.underway.specs.Whole.{init_from, blocks_from, blocks_at, blocks_call, status_from}

some-blocks : (n : ℕ) → 1 ≤ n → n ≤ 511 → blocks_of n ≡ n
unfolding blocks_of
some-blocks n least most = omega arith

-- a read or a write is judged as what it is: from there on it is the plan for that answer
module _ (host : Sdmmc) (writes : Bool) (index bytes : ℕ) (sent : List ℕ) where
  abbrev buffer : Buffer
  buffer = cond writes (outgoing sent) incoming

  its_way : (b : Bool) → sends (cond b (outgoing sent) incoming) ≡ b
  its_way true = refl
  its_way false = refl

  judged-call : (a : Result ℕ Error) → blocks_judged host writes index bytes ≡ a
      → blocks_at host buffer (bytes / 512) a ≡ blocks_call host buffer index bytes
  unfolding blocks_call
  judged-call a e = rw (its_way writes, e)

  pub moved_call : (a : ℕ) → blocks_judged host writes index bytes ≡ Ok a
      → blocks_from host buffer a (blocks_of (bytes / 512)) ≡ blocks_call host buffer index bytes
  unfolding blocks_at
  moved_call a e =
      let place = judged-good host writes index bytes a e in
      ap (λ (n : ℕ). blocks_from host buffer a n) (some-blocks (bytes / 512) place.some place.most) ∙ judged-call (Ok a) e

  pub refused-call : (x : Error) → blocks_judged host writes index bytes ≡ Err x
      → keeping host (failed x) ≡ blocks_call host buffer index bytes
  unfolding blocks_at
  refused-call x e = judged-call (Err x) e

reset-rows : reset_controller ≡ rows_from reset_rows
unfolding reset_controller row handle rows_from
reset-rows = refl

module _ (j : Job) (k : Known) (held : List ℕ) (g : Lent) (h : Line) where
  -- refused before its first step
  pub refused-begins : (e : Error) → next (at_plan j k held g (A.Over (Z.Keeping (Y.Failed e)))) h ≡ next (keeping j.host (failed e)) h
  unfolding at_plan end_plan
  refused-begins e = refl

  -- CMD55 of a status call
  module _ (limit argument : ℕ) (gated : Bool) (gate : h.gated ≡ gated) where
    begins : next (plug (site_of j k g.sent T.App) (begun_plan limit 55 argument R1 gated)) h ≡ next (plug (site_of j k g.sent T.App) (command limit 55 argument R1)) h
    begins = same-plug (site_of j k g.sent T.App) _ _ h (parts.begins limit 55 argument R1 gated h (sym gate))

    pub app-on : (c : Command) → begun_next (Some c) h ≡ next (begun_plan limit 55 argument R1 gated) h
        → next (at_plan j k held g (A.Command T.App c)) h ≡ next (plug (site_of j k g.sent T.App) (command limit 55 argument R1)) h
    unfolding at_plan begun_next
    app-on c e = same-plug (site_of j k g.sent T.App) _ _ h e ∙ begins

    app-failed : next (at_plan j k held g (A.Over (Z.Keeping (Y.Failed E.SoftwareTimeout)))) h ≡ next (plug (site_of j k g.sent T.App) (fail E.SoftwareTimeout)) h
    unfolding at_plan end_plan site_of handle plug
    app-failed = refl

    pub app-spent : begun_next None h ≡ next (begun_plan limit 55 argument R1 gated) h
        → next (at_plan j k held g (A.Over (Z.Keeping (Y.Failed E.SoftwareTimeout)))) h ≡ next (plug (site_of j k g.sent T.App) (command limit 55 argument R1)) h
    unfolding begun_next
    app-spent e = app-failed ∙ same-plug (site_of j k g.sent T.App) (fail E.SoftwareTimeout) (begun_plan limit 55 argument R1 gated) h e ∙ begins

-- an initialisation: its first row is that of the reset
module _ (j : Job) (k : Known) (held : List ℕ) (g : Lent) where
  abbrev resets : Clock → ℕ → Plan Closing
  resets c f = plug (Sites.resetting j.host c f) reset_controller

  resets-first : (c : Clock) (f : ℕ) (h : Line) → next (resets c f) (fresh_line c.frequency) ≡ next (init_from j.host c f) h
  unfolding initialise init_card begin_init power_on handle plug next
  resets-first c f h = refl

  resets-rows : (c : Clock) (f : ℕ) (h : Line) → next (plug (Sites.resetting j.host c f) (rows_from (rows_left Re.Mask))) h ≡ next (resets c f) h
  resets-rows c f h = ap (λ (rs : List Row). next (plug (Sites.resetting j.host c f) (rows_from rs)) h) all_rows ∙ rw (← reset-rows)

  pub resets-begins : (c : Clock) (f : ℕ) (h : Line) → j.asked ≡ Q.Card c f
      → next (at_plan j k held g (A.Tells (R.Reset Re.Mask))) (fresh_line c.frequency) ≡ next (init_from j.host c f) h
  unfolding at_plan writes_plan initial_of frequency_of
  resets-begins c f h e =
      ap (λ (q : Asked). next (plug (Sites.resetting j.host (initial_of q) (frequency_of q)) (rows_from (rows_left Re.Mask))) (fresh_line c.frequency)) e
      ∙ resets-rows c f (fresh_line c.frequency) ∙ resets-first c f h

  -- a call with a data phase of its own, by what was asked
  abbrev owning : Asked → Plan Closing
  owning q =
      plug (inside (accepting j.host (host_by q j.host)) (dropping j.host) whole) (phase_plan (bus_with j j.host.card.rca) (phase_by q) g.sent)

  -- a read or a write: the ready wait
  pub reads-begins : (a n : ℕ) (h : Line) → j.asked ≡ Q.Blocks a n
      → next (plug (wait_site j k g.sent W.Blocks) (wait_ready j.host.settings.source.0 j.host.settings.config (wait_rca j k W.Blocks))) h
      ≡ next (blocks_from j.host incoming a (blocks_of n)) h
  unfolding wait_site wait_rca host_by phase_by transfer_of sends_of plug
  reads-begins a n h e =
      ap (λ (q : Asked). next (plug (Sites.approached j.host (owning q)) (wait_ready j.host.settings.source.0 j.host.settings.config j.host.card.rca)) h) e

  pub sends-begins : (a n : ℕ) (h : Line) → j.asked ≡ Q.Sends a n
      → next (plug (wait_site j k g.sent W.Blocks) (wait_ready j.host.settings.source.0 j.host.settings.config (wait_rca j k W.Blocks))) h
      ≡ next (blocks_from j.host (outgoing g.sent) a (blocks_of n)) h
  unfolding wait_site wait_rca host_by phase_by transfer_of sends_of plug
  sends-begins a n h e =
      ap (λ (q : Asked). next (plug (Sites.approached j.host (owning q)) (wait_ready j.host.settings.source.0 j.host.settings.config j.host.card.rca)) h) e

  -- a status call: CMD55
  pub app-begins : (h : Line) → j.asked ≡ Q.Status
      → next (plug (site_of j k g.sent T.App) (command (limit_at j) 55 (j.host.card.rca * 2 ^ 16) R1)) h ≡ next (status_from j.host) h
  unfolding site_of host_by phase_by transfer_of sends_of app_command plug
  app-begins h e =
      ap (λ (q : Asked). next (plug (Sites.app j.host (owning q)) (command (limit_at j) 55 (j.host.card.rca * 2 ^ 16) R1)) h) e
