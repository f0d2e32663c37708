-- What a call has come to, by whether it is over.
use Rattle.std.specs.Prelude.{Some, None}
use Prim.Native.Nat.{ℕ}
use mathlib.Core.Path.{◌≡◌, refl, ap, sym}
use mathlib.Core.Bool.{true}
use mathlib.Core.List.{List}
use Rattle.tape.specs.declared.progress.Line.{Line}
use Rattle.host.specs.declared.host.Sdmmc.{Sdmmc}
use Rattle.step.specs.Command.{command_plan}
use Rattle.step.specs.Next.{Next, asks, tells, over, refused, next, waits, Lent}
use Rattle.step.specs.Ready.{ready_plan}
use Rattle.step.specs.Transfer.{data_plan}
use Rattle.step.proofs.Inside.{inside-waits, command-waits}
use Rattle.step.proofs.Phases.{data_waits}
use Rattle.step.proofs.Readying.{ready-waits}
use Rattle.stepping.specs.Ahead.{bus_with, phase_of, words_in, rca_of, wait_rca, site_of, wait_site, gets_site, end_plan, at_plan}
use Rattle.stepping.specs.Closing.{Closing}
use Rattle.stepping.specs.declared.call.At.{At}
use Rattle.stepping.specs.declared.call.At.TheVariants as A
use Rattle.stepping.specs.declared.call.End.{End}
use Rattle.stepping.specs.declared.call.Gets.TheVariants as G
use Rattle.stepping.specs.declared.call.Job.{Job}
use Rattle.stepping.specs.declared.call.Known.{Known}
use Rattle.underway.specs.Under.{under, ends_at, closed_at, closed_of}
use Rattle.underway.specs.declared.call.Call.{Call}
use Rattle.underway.specs.declared.call.Closed.{Closed}
use Rattle.underway.proofs.Rowing.{idle-waits, row-waits}

module _ (j : Job) (k : Known) (h : Line) (held : List ℕ) (g : Lent) where
  -- a call that is not over waits
  at-waits : (at : At) → ends_at at ≡ None → waits (next (at_plan j k held g at) h) ≡ true
  unfolding at_plan ends_at
  at-waits (A.Command s c) e = inside-waits (site_of j k g.sent s) (command_plan c) h (command-waits c h)
  at-waits (A.Ready t r) e =
      inside-waits (wait_site j k g.sent t) (ready_plan (bus_with j (wait_rca j k t)) r) h (ready-waits (bus_with j (wait_rca j k t)) h r)
  at-waits (A.Data gets d) e =
      inside-waits (gets_site j k gets) (data_plan (bus_with j (rca_of j k gets)) (phase_of j.asked gets) (words_in j gets held g) d) h
      (data_waits (bus_with j (rca_of j k gets)) (phase_of j.asked gets) (words_in j gets held g) h d)
  at-waits (A.Idle c n) e = idle-waits j k h c n
  at-waits (A.Tells t) e = row-waits j k h t
  at-waits (A.Over x) e = cc

  at-ends : (at : At) (x : End) → ends_at at ≡ Some x → next (end_plan j k (words_in j G.Asked held g) x) h ≡ next (at_plan j k held g at) h
  unfolding at_plan ends_at
  at-ends (A.Command s c) x e = cc
  at-ends (A.Ready t r) x e = cc
  at-ends (A.Data gets d) x e = cc
  at-ends (A.Idle c n) x e = cc
  at-ends (A.Tells t) x e = cc
  at-ends (A.Over y) x e = let same : y ≡ x = cc in ap (λ (z : End). next (end_plan j k (words_in j G.Asked held g) z) h) (sym same)

closed-waits : (host : Sdmmc) (x : Next Closing) → waits x ≡ true
    → ◌≡◌ {A = Closed} (record { outcome = None; host = host }) (closed_at host x)
unfolding waits
closed-waits host (asks h r f z) e = refl
closed-waits host (tells h r p) e = refl
closed-waits host (over h a) e = cc
closed-waits host (refused h c) e = cc

module _ (c : Call) (g : Lent) where
  pub closed-over : (x : End) → ends_at c.at ≡ Some x
      → closed_at c.job.host (next (end_plan c.job c.known (words_in c.job G.Asked c.held g) x) c.line) ≡ closed_of (under g c)
  unfolding closed_of
  closed-over x e = ap (closed_at c.job.host) (at-ends c.job c.known c.line c.held g c.at x e)

  pub closed-under : ends_at c.at ≡ None → ◌≡◌ {A = Closed} (record { outcome = None; host = c.job.host }) (closed_of (under g c))
  unfolding closed_of
  closed-under e = closed-waits c.job.host (under g c).ahead (at-waits c.job c.known c.line c.held g c.at e)
