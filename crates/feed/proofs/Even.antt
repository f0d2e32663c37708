-- How many turns are left of a call does not depend on the data words that were handed out: they are only given.
use Prim.Native.Nat.{ℕ, suc, ◌+◌}
use mathlib.Core.Path.{◌≡◌, refl, ap, sym, ◌∙◌}
use mathlib.Core.Bool.{Bool, true, false, cond}
use mathlib.Core.List.{List, ◌++◌}
use lib.Dec.{ltb}
use lib.ListN.{length, get_or, take}
use Rattle.tape.specs.declared.progress.Line.{Line}
use Rattle.tape.specs.Plan.{Nothing, Plan, give, refuse, read, write, look, hold, handle, ◌then◌, refusing}
use Rattle.tape.specs.Run.{noted}
use Rattle.tape.specs.Steps.{reset_controller, data_from}
use Rattle.bus.specs.Transfer.{end_data}
use Rattle.step.specs.Context.{Context, inside, plug, and_then, plug_read, plug_write, plug_look, plug_hold}
use Rattle.step.specs.Next.{next, Lent}
use Rattle.step.specs.Transfer.{transfer_of, place_of, after_of, given_of, all_of, taken_by, stop_site, ending, unclocked, reads_plan, writes_plan, data_plan, idling, polling, start_site}
use Rattle.step.specs.declared.ready.Bus.{Bus}
use Rattle.step.specs.declared.transfer.Data.{Data}
use Rattle.step.specs.declared.transfer.Data.TheVariants as D
use Rattle.step.specs.declared.phase.Phase.{Phase}
use Rattle.step.specs.declared.phase.Phase.TheVariants as P
use Rattle.step.specs.declared.transfer.Reads.{Reads}
use Rattle.step.specs.declared.transfer.Reads.TheVariants as R
use Rattle.step.specs.declared.transfer.Writes.{Writes}
use Rattle.step.specs.declared.transfer.Writes.TheVariants as W
use Rattle.stepping.specs.Ahead.{phase_by, phase_of, bus_with, rca_of, gets_site, own_site, end_plan, at_plan}
use Rattle.stepping.specs.Closing.{Closing, accepting}
use Rattle.stepping.specs.declared.call.Asked.{Asked}
use Rattle.stepping.specs.declared.call.Asked.TheVariants as Q
use Rattle.stepping.specs.declared.call.At.{At}
use Rattle.stepping.specs.declared.call.At.TheVariants as A
use Rattle.stepping.specs.declared.call.End.TheVariants as Z
use Rattle.stepping.specs.declared.call.Gets.{Gets}
use Rattle.stepping.specs.declared.call.Gets.TheVariants as G
use Rattle.stepping.specs.declared.call.Job.{Job}
use Rattle.stepping.specs.declared.call.Known.{Known}
use Rattle.feed.specs.Runs.{span, next_span}
use Rattle.feed.specs.Turns.{lent}
use Rattle.feed.proofs.Drive.{span-next}

module _ (s : List ℕ) where
  -- as many turns, from every place and line
  abbrev Even : {A : Type 0} → Plan A → Plan A → Type 0
  Even p q = (u : ℕ) (h : Line) → next_span s (next p h) u ≡ next_span s (next q h) u

  by_span : {A : Type 0} (p q : Plan A) → Even p q → (u : ℕ) (h : Line) → span s p u h ≡ span s q u h
  by_span p q e u h = sym (span-next s p u h) ∙ e u h ∙ span-next s q u h

  -- plans that go on alike after the same steps
  module _ {A B C : Type 0} (k : Context B C) (f f' : A → Plan C) (same : (a : A) → Even (plug k (f a)) (plug k (f' a))) where
    then_even : (p : Plan A) → Even (plug k (p then f)) (plug k (p then f'))
    unfolding handle next next_span span
    then_even (give a) u h = same a u h
    then_even (refuse c) u h = refl
    then_even (read r g z) u h =
        rw (plug_read k r (λ w. g w then f) (z then f), plug_read k r (λ w. g w then f') (z then f'))
        (ap suc (by_test (ltb u (length s)) (by_span (plug k (g (get_or s u 0) then f)) (plug k (g (get_or s u 0) then f')) (then_even (g (get_or s u 0))) (u + 1) h)
        (by_span (plug k (z then f)) (plug k (z then f')) (then_even z) u h)))
      where
        by_test : (b : Bool) {x x' y y' : ℕ} → x ≡ x' → y ≡ y' → cond b x y ≡ cond b x' y'
        by_test true e e' = e
        by_test false e e' = e'
    then_even (write r p) u h =
        rw (plug_write k r (p then f), plug_write k r (p then f')) (ap suc (by_span (plug k (p then f)) (plug k (p then f')) (then_even p) u (noted r h)))
    then_even (look g) u h =
        rw (plug_look k (λ h. g h then f) h, plug_look k (λ h. g h then f') h) (then_even (g h) u h)
    then_even (hold h' p) u h = rw (plug_hold k h' (p then f) h, plug_hold k h' (p then f') h) (then_even p u h')

  module _ (j : Job) (sent taken taken' : List ℕ) where
    abbrev g : Lent
    g = lent sent taken

    abbrev g' : Lent
    g' = lent sent taken'

    -- under the guard of the call's own data phase, whatever words are given
    abbrev own : Context Closing (List ℕ)
    own = inside give (refusing reset_controller) (own_site j)

    given-even : (ws ws' : List ℕ) → Even (plug own (give ws)) (plug own (give ws'))
    unfolding plug handle accepting next next_span
    given-even ws ws' u h = refl

    -- after all of them, and before
    ending-even : (phase : Phase) (p : Plan Nothing)
        → Even (plug own (p then λ _. give (all_of phase g))) (plug own (p then λ _. give (all_of phase g')))
    ending-even phase p = then_even own (λ _. give (all_of phase g)) (λ _. give (all_of phase g')) (λ _. given-even _ _) p

    module _ (bus : Bus) (phase : Phase) where
      abbrev stops : List ℕ → Plan (List ℕ)
      stops ws = end_data bus.source.0 bus.config (transfer_of phase).index bus.rca then λ _. give ws

      reads-even : (r : Reads) → Even (plug (own_site j) (reads_plan bus phase g r)) (plug (own_site j) (reads_plan bus phase g' r))
      unfolding reads_plan idling polling plug handle
      reads-even (R.Idle n) = λ u h. refl
      reads-even (R.First n) = λ u h. refl
      reads-even (R.FirstDma n v) = λ u h. refl
      reads-even (R.Again n) = λ u h. refl
      reads-even (R.AgainDma n v) = λ u h. refl
      reads-even (R.Count n) = λ u h. refl
      reads-even (R.Word m) =
          then_even (and_then stops own) (λ rest. give (given_of phase (take (place_of phase m) taken ++ rest))) (λ rest. give (given_of phase (take (place_of phase m) taken' ++ rest)))
          (λ rest. then_even own (λ _. give (given_of phase (take (place_of phase m) taken ++ rest))) (λ _. give (given_of phase (take (place_of phase m) taken' ++ rest))) (λ _. given-even _ _)
          (end_data bus.source.0 bus.config (transfer_of phase).index bus.rca))
          (data_from (place_of phase m) (suc (after_of phase m)))

      writes-even : (t : Writes) → Even (plug (own_site j) (writes_plan bus phase g t)) (plug (own_site j) (writes_plan bus phase g' t))
      unfolding writes_plan unclocked ending plug
      writes-even (W.Reset r e) = λ u h. refl
      writes-even (W.Arm a) = λ u h. refl
      writes-even W.Control = λ u h. refl
      writes-even W.Open = λ u h. refl
      writes-even (W.Stop x) = ending-even phase _
      writes-even W.Gate = ending-even phase _

      data_even : (d : Data) → Even (plug (own_site j) (data_plan bus phase g d)) (plug (own_site j) (data_plan bus phase g' d))
      unfolding data_plan start_site stop_site ending plug
      data_even (D.Asks r) = reads-even r
      data_even (D.Tells t) = writes-even t
      data_even (D.Sends m) = λ u h. refl
      data_even (D.Start c) = λ u h. refl
      data_even (D.Stop c) = ending-even phase _
      data_even (D.Ready r) = ending-even phase _

  module _ (j : Job) (sent taken taken' : List ℕ) (k : Known) (held : List ℕ) where
    phase-even : (gets : Gets) (d : Data) (q : Asked) → j.asked ≡ q
        → Even (at_plan j k held (lent sent taken) (A.Data gets d)) (at_plan j k held (lent sent taken') (A.Data gets d))
    unfolding at_plan phase_of phase_by taken_by gets_site
    phase-even G.Asked d (Q.Card c f) e = rw e (λ u h. refl)
    phase-even G.Asked d Q.Status e = rw e (λ u h. refl)
    phase-even G.Asked d (Q.Blocks a n) e =
        let same : Job = record { host = j.host; asked = Q.Blocks a n } in
        rw e (data_even same sent taken taken' (bus_with same (rca_of same k G.Asked)) (P.Blocks a n) d)
    phase-even G.Asked d (Q.Sends a n) e =
        let same : Job = record { host = j.host; asked = Q.Sends a n } in
        rw e (data_even same sent taken taken' (bus_with same (rca_of same k G.Asked)) (P.Sends a n) d)
    phase-even G.Scr d q e = λ u h. refl
    phase-even G.Check d q e = λ u h. refl
    phase-even G.Switch d q e = λ u h. refl

    -- of every place of a call
    pub at-even : (at : At) → Even (at_plan j k held (lent sent taken) at) (at_plan j k held (lent sent taken') at)
    unfolding at_plan end_plan accepting next next_span
    at-even (A.Command x c) = λ u h. refl
    at-even (A.Ready w r) = λ u h. refl
    at-even (A.Data gets d) = phase-even gets d j.asked refl
    at-even (A.Idle c n) = λ u h. refl
    at-even (A.Tells t) = λ u h. refl
    at-even (A.Over Z.Accepted) = λ u h. refl
    at-even (A.Over Z.Found) = λ u h. refl
    at-even (A.Over (Z.Keeping e)) = λ u h. refl
    at-even (A.Over (Z.Dropping e)) = λ u h. refl
