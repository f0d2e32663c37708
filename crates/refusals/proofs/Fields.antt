-- Which field a call's 13 carries: that of the step that refused. Of an initialisation and a status call it is told by the
-- command sent last and what the card had answered; a read or a write is never answered 13.
use Rattle.std.specs.Prelude.{Result, Ok, Err}
use Rattle.types.specs.declared.clock.Clock.{Clock}
use Prim.Native.Nat.{ℕ, ◌≤◌}
use mathlib.Core.Bool.{false, ◌||◌}
use mathlib.Core.List.{List, []}
use mathlib.Core.Path.{◌≡◌, refl, sym, ◌∙◌}
use native.Mathlib.Omega.{arith}
use lib.Dec.{eqb, ltb}
use Rattle.types.specs.declared.card.Card.{Card}
use Rattle.types.specs.declared.error.Answer.TheVariants as Answered
use Rattle.types.specs.declared.error.Error.{Error}
use Rattle.types.specs.declared.error.Error.TheVariants as E
use Rattle.types.specs.declared.error.Field.{Field}
use Rattle.types.specs.declared.error.Field.TheVariants.{AppCommand}
use Rattle.types.specs.Answer.{error_told}
use Rattle.types.specs.Leaf.{clock_of}
use Rattle.tape.specs.declared.rows.Row.{Row}
use Rattle.tape.specs.Plan.{Plan}
use Rattle.tape.specs.Run.{run}
use Rattle.bus.specs.Sent.{last_sent}
use Rattle.bus.specs.Transfer.{Buffer}
use Rattle.bus.proofs.Shown.{Tells, run-shows, tells-fail, tells-hold, tells_then, tells_test, tells_obeyed, app-tells}
use Rattle.bus.proofs.Walks.{not_13, data_obeys}
use Rattle.init.specs.Initialise.{source_of, limit_of, no_card}
use Rattle.init.proofs.Fields.{Not13, typeless, any, row_any, bad-clock, clock_not_13, Blamed, unblamed, keeps, app, initialise-tells}
use Rattle.host.specs.declared.host.Sdmmc.{Sdmmc}
use Rattle.host.specs.Calls.{Came, initialised, blocks_came, status_came}
use Rattle.refusals.specs.Fields.{CarriesField}
use Rattle.refusals.specs.Whole.{init_at, init_whole, status_whole, Ran}
use Rattle.refusals.proofs.Whole.{refused-pace, initialise-ran, status-ran, blocks_not_13}

module _ (host : Sdmmc) (s : List ℕ) (l : List Row) where
  -- its plan tells
  by_plan : {A : Type 0} (d : A) (p : Plan A) (x : Came) → Tells s (Blamed s) A (λ u c a. 0 ≤ u) 0 0 p → Ran x (run s d p 0 0 host.line l) → CarriesField s x
  unfolding last_sent
  by_plan d p x b ran field r =
      let seen = run-shows s (Blamed s) (λ u c a. 0 ≤ u) d p 0 0 host.line l b.each in
      rw (ran.words, ran.rows, ran.list) (seen.refused (E.UnsupportedCardType field) (refused-pace _ _ (sym ran.answer ∙ r)) field refl)

  init_tells : (frequency : ℕ) → Tells s (Blamed s) Card (λ u c a. 0 ≤ u) 0 0 (init_whole host frequency)
  unfolding init_whole init_at
  init_tells frequency =
      tells_test s (eqb frequency 0 || ltb 50_000_000 frequency) (λ t. tells-fail s (unblamed s 0 0 E.BadClock bad-clock))
      (λ t. at (clock_of (source_of host.settings) 400_000 false) refl)
    where
      at : (a : Result Clock Error) → clock_of (source_of host.settings) 400_000 false ≡ a → Tells s (Blamed s) Card (λ u c a. 0 ≤ u) 0 0 (init_at host frequency a)
      at (Err e) g = tells-fail s (unblamed s 0 0 e (clock_not_13 _ 400_000 false e g))
      at (Ok c) g = tells-hold s (initialise-tells s host.settings c frequency)

  pub initialise_field : (frequency : ℕ) → CarriesField s (initialised host frequency s l)
  initialise_field frequency = by_plan no_card (init_whole host frequency) _ (init_tells frequency) (initialise-ran host s l frequency)

  -- CMD55 before ACMD13 is the only step of a status call that is answered so
  status-tells : Tells s (Blamed s) (List ℕ) (λ u c a. 0 ≤ u) 0 0 (status_whole host)
  unfolding status_whole error_told
  status-tells =
      tells_test s host.known
      (λ t. tells_then s (app s 0 (limit_of host.settings) host.card.rca (omega arith))
      (λ u c x h. keeps s 0 (data_obeys typeless not_13 any row_any _ _ _ _ _) h))
      (λ t. tells-fail s (unblamed s 0 0 E.NoCard no-card))
    where
      no-card : Not13 E.NoCard
      no-card z = omega arith

  pub status_field : CarriesField s (status_came host s l)
  status_field = by_plan [] (status_whole host) _ status-tells (status-ran host s l)

  -- and so the only field that it carries is 8
  Alone : ℕ → ℕ → Error → Type 0
  Alone u c e = (field : Field) → e ≡ E.UnsupportedCardType field → field ≡ AppCommand

  other-alone : (u c : ℕ) (e : Error) → Not13 e → Alone u c e
  unfolding Alone error_told
  other-alone u c e n field same = absurd (n (rw same))

  status-alone : Tells s Alone (List ℕ) (λ u c a. 0 ≤ u) 0 0 (status_whole host)
  unfolding status_whole Alone error_told
  status-alone =
      tells_test s host.known
      (λ t. tells_then s (app-tells s Alone (λ u c e o. other-alone u c e (not_13 e o)) (λ from u c ws a h field same. cc) 0 (limit_of host.settings) host.card.rca (omega arith))
      (λ u c x h. tells_obeyed s typeless (λ u c. 0 ≤ u) (λ h. tt) (λ u c i. omega arith) (λ u c r w i. i) (λ u c e n i. other-alone u c e n) (data_obeys typeless not_13 any row_any _ _ _ _ _) h))
      (λ t. tells-fail s (other-alone 0 0 E.NoCard (λ z. omega arith)))

  pub status_field_8 : (field : Field) → (status_came host s l).answer ≡ Answered.Refused (E.UnsupportedCardType field) → field ≡ AppCommand
  unfolding Alone last_sent
  status_field_8 field r =
      let seen = run-shows s Alone (λ u c a. 0 ≤ u) [] (status_whole host) 0 0 host.line l status-alone.each in
      seen.refused (E.UnsupportedCardType field) (refused-pace _ _ (sym (status-ran host s l).answer ∙ r)) field refl

  pub blocks_field : (buffer : Buffer) (index bytes : ℕ) → CarriesField s (blocks_came host buffer index bytes s l)
  unfolding error_told
  blocks_field buffer index bytes field r = absurd (blocks_not_13 host s l buffer index bytes (E.UnsupportedCardType field) r refl)
