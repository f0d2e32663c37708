-- How a ready wait goes on from each of its places.
use Rattle.std.specs.Prelude.{Some, None, Ok, Err}
use Prim.Native.Nat.{ℕ, suc, ◌*◌, ◌^◌}
use mathlib.Core.Path.{◌≡◌, refl, ap, sym, ◌∙◌}
use mathlib.Core.Bool.{Bool, true, false, cond}
use Rattle.types.specs.Leaf.{rounded_up}
use Rattle.types.specs.Sd.{ready_of}
use Rattle.types.specs.declared.error.Error.TheVariants as E
use Rattle.tape.specs.declared.progress.Line.{Line}
use Rattle.tape.specs.Plan.{Nothing, failed, give, fail, ◌then◌, handle, until}
use Rattle.tape.specs.Rows.{DELAY}
use Rattle.tape.specs.Run.{noted}
use Rattle.tape.specs.Steps.{row}
use Rattle.bus.specs.declared.response.Response.TheVariants.{R1}
use Rattle.bus.specs.Ready.{retry_delay, read_status, try_ready, wait_ready}
use Rattle.step.specs.Next.{Next, over, refused, next, told, want_of, waits, line_after}
use Rattle.step.specs.Context.{Context, plug, plug_next, next_plug}
use Rattle.step.specs.Command.{command_plan, command_next, end_next, list_of, begun_plan, begun_next}
use Rattle.step.specs.Why.{cause_of}
use Rattle.step.specs.declared.why.Why.{Why}
use Rattle.step.specs.Ready.{limit_at, attempts, tried, asked, ready_plan, ready_next}
use Rattle.step.specs.declared.command.Command.{Command}
use Rattle.step.specs.declared.why.Step.TheVariants as St
use Rattle.step.specs.declared.command.Words.{Words}
use Rattle.step.specs.declared.ready.Bus.{Bus}
use Rattle.step.specs.declared.ready.Ready.{Ready}
use Rattle.step.specs.declared.ready.Ready.TheVariants as R
use Rattle.step.specs.declared.why.Step.{Step}
use Rattle.step.specs.declared.wants.Wants.TheVariants as W
use Rattle.step.proofs.Inside.{same-plug, command-waits, inside-waits, inside-line, inside-told}
use Rattle.step.proofs.Parts as parts

module _ (bus : Bus) (h : Line) where
  pub attempt_over : refused h (failed E.SoftwareTimeout) ≡ next (attempts bus 0) h
  unfolding attempts until handle next
  attempt_over = refl

  module _ (n : ℕ) (gated : Bool) (gate : h.gated ≡ gated) where
    begins : next (plug (asked bus n) (begun_plan (limit_at bus) 13 (bus.rca * 2 ^ 16) R1 gated)) h ≡ next (attempts bus (suc n)) h
    unfolding asked attempts until try_ready read_status handle plug
    begins = same-plug (asked bus n) _ _ h (parts.begins (limit_at bus) 13 (bus.rca * 2 ^ 16) R1 gated h (sym gate))

    pub attempt_on : (c : Command) → begun_next (Some c) h ≡ next (begun_plan (limit_at bus) 13 (bus.rca * 2 ^ 16) R1 gated) h
        → next (ready_plan bus (R.Asks n c)) h ≡ next (attempts bus (suc n)) h
    unfolding ready_plan begun_next
    attempt_on c e = same-plug (asked bus n) _ _ h e ∙ begins

    pub attempt_failed : begun_next None h ≡ next (begun_plan (limit_at bus) 13 (bus.rca * 2 ^ 16) R1 gated) h
        → refused h (failed E.SoftwareTimeout) ≡ next (attempts bus (suc n)) h
    unfolding begun_next asked handle plug next
    attempt_failed e = same-plug (asked bus n) (fail E.SoftwareTimeout) (begun_plan (limit_at bus) 13 (bus.rca * 2 ^ 16) R1 gated) h e ∙ begins

  pub wait_begins : next (attempts bus bus.config.card_ready_attempts) h ≡ next (wait_ready bus.source.0 bus.config bus.rca) h
  unfolding attempts wait_ready
  wait_begins = refl

  module _ (n : ℕ) where
    abbrev looked : Bool → Next Nothing
    looked b = next (plug (tried bus n) (cond b (give true) (retry_delay bus.source.0 then λ _. give false))) h

    pub answered-ready : (w : Words) → ready_of w.a ≡ true → over h tt ≡ next (plug (asked bus n) (give (list_of w))) h
    unfolding asked handle plug next
    answered-ready w e = ap looked (sym e)

    pub answered-not : (w : Words) → ready_of w.a ≡ false → next (ready_plan bus (R.Delay n)) h ≡ next (plug (asked bus n) (give (list_of w))) h
    unfolding ready_plan asked handle plug
    answered-not w e = ap looked (sym e)

    pub asking-on : (c : Command) → next (ready_plan bus (R.Asks n c)) h ≡ plug_next (asked bus n) (command_next (St.On c) h)
    unfolding ready_plan command_next
    asking-on c = next_plug (asked bus n) (command_plan c) h

    pub asking_well : (w : Words) → next (plug (asked bus n) (give (list_of w))) h ≡ plug_next (asked bus n) (command_next (St.Over (Ok w)) h)
    unfolding command_next end_next plug_next next
    asking_well w = refl

    pub asking_badly : (e : Why) → refused h (cause_of e) ≡ plug_next (asked bus n) (command_next (St.Over (Err e)) h)
    unfolding command_next end_next plug_next asked handle plug next
    asking_badly e = refl

    pub delay_wants : W.Write (record { register = DELAY; value = rounded_up bus.source.0 1000 }) ≡ want_of (next (ready_plan bus (R.Delay n)) h)
    unfolding ready_plan retry_delay row handle plug next want_of
    delay_wants = refl

    pub delay-told : next (attempts bus n) (line_after (next (ready_plan bus (R.Delay n)) h)) ≡ told (next (ready_plan bus (R.Delay n)) h)
    unfolding ready_plan attempts retry_delay row handle plug next line_after told
    delay-told = refl

    pub delay-gated : (line_after (next (ready_plan bus (R.Delay n)) h)).gated ≡ h.gated
    unfolding ready_plan retry_delay row handle plug next line_after noted
    delay-gated = refl

  -- it always waits for something
  pub ready-waits : (r : Ready) → waits (next (ready_plan bus r) h) ≡ true
  unfolding ready_plan retry_delay row handle plug next waits
  ready-waits (R.Asks n c) = inside-waits (asked bus n) (command_plan c) h (command-waits c h)
  ready-waits (R.Delay n) = refl

  -- in a context, after its row
  pub ready-goes : {B : Type 0} (k : Context B Nothing) (r : Ready) (s : Step Ready (Unit {0}))
      → ready_next bus s (line_after (next (ready_plan bus r) h)) ≡ told (next (ready_plan bus r) h)
      → plug_next k (ready_next bus s (line_after (next (plug k (ready_plan bus r)) h))) ≡ told (next (plug k (ready_plan bus r)) h)
  ready-goes k r s e =
      ap (λ (l : Line). plug_next k (ready_next bus s l)) (inside-line k (ready_plan bus r) h (ready-waits r))
      ∙ ap (plug_next k) e ∙ inside-told k (ready_plan bus r) h (ready-waits r)
