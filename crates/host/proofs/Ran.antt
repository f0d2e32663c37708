-- What a call's steps come to, from their contracts.
use Rattle.std.specs.Prelude.{Ok, Err}
use mathlib.Core.Bool.{Bool, true, false, cond, ◌&&◌}
use mathlib.Core.List.{List, []}
use mathlib.Core.Path.{◌≡◌, refl, ap, sym, ◌∙◌}
use Prim.Native.Nat.{ℕ, ◌/◌, ◌%◌, ◌≤◌}
use native.Mathlib.Omega.{arith}
use lib.Dec.{eqb}
use borrow.Author.Tests.{eqb-true}
use Rattle.types.specs.declared.error.Error.TheVariants as E
use Rattle.types.specs.Leaf.{address_of, stops_writes}
use Rattle.types.proofs.Agree.{address}
use Rattle.tape.specs.declared.progress.Halt.{Halt}
use Rattle.tape.specs.declared.progress.Halt.TheVariants.{Refused, ScriptEnded, TraceFull}
use Rattle.tape.specs.declared.progress.Line.{Line}
use Rattle.tape.specs.Pace.{Pace}
use Rattle.tape.specs.Pace.{Going, Stopped}
use Rattle.tape.specs.Pace.{Progress}
use Rattle.tape.specs.declared.rows.Row.{Row}
use Rattle.tape.specs.Plan.{Nothing, Plan}
use Rattle.tape.specs.Run.{State, at, going_at, After, kept_at, run, run_from, does_at, Gave}
use Rattle.bus.specs.Command.{app_command}
use Rattle.init.specs.Initialise.{limit_of}
use Rattle.host.specs.declared.host.Called.{Called}
use Rattle.host.specs.declared.host.Sdmmc.{Sdmmc}
use Rattle.types.specs.Words.{sd_status_of}
use Rattle.types.specs.declared.error.Answer.TheVariants as Answered
use Rattle.tape.specs.declared.progress.Head.{Head}
use Rattle.tape.proofs.Laws.{by_cases}
use Rattle.tape.proofs.Laws.{kept as given_where}
use Rattle.host.specs.Calls.{Came, called_of, ends, dropped, kept, transferred, approached, served, blocks_judged}
use Rattle.host.specs.Calls.{status_plan, status_next, status_came, status_given, status_read_of}

-- a choice by a test that is known
pub if_true : {A : Type 0} {b : Bool} {x : A} (y : A) → b ≡ true → x ≡ cond b x y
if_true y t = rw t

pub if_false : {A : Type 0} {b : Bool} (x : A) {y : A} → b ≡ false → y ≡ cond b x y
if_false x t = rw t

-- before the first step of a call
abbrev pub begun : Line → Progress
begun line = record { pace = Going; used = 0; rows = 0; line = line }

-- a plan that was started there
pub from_start : {s : List ℕ} {A : Type 0} {d : A} {p : Plan A} {line : Line} {l : List Row} {v : A} {w : State}
    → Gave s A d p (at (begun line) l) v w → record { value = v; state = w } ≡ run s d p 0 0 line l
unfolding does_at
from_start e = e.same

-- a plan of a call that is still going
pub from-there : {s : List ℕ} {A : Type 0} {d : A} {p : Plan A} {w : State} {v : A} {w' : State}
    → w.progress.pace ≡ Going → Gave s A d p w v w' → record { value = v; state = w' } ≡ run_from s d p w
unfolding does_at
from-there g e = rw g at e.same

-- however a call ends, its list is what its plan left
pub ends-list : (host refused accepted : Sdmmc) (words : List ℕ) (q : Pace) (w : State) → (ends host refused accepted words q w).list ≡ w.list
unfolding ends
ends-list host refused accepted words Going w = refl
ends-list host refused accepted words (Stopped (Refused e)) w = refl
ends-list host refused accepted words (Stopped ScriptEnded) w = refl
ends-list host refused accepted words (Stopped TraceFull) w = refl

-- and its data words are what its plan gave
pub ends-taken : (host refused accepted : Sdmmc) (words : List ℕ) (q : Pace) (w : State) → words ≡ kept_at [] words q
    → (ends host refused accepted words q w).taken ≡ words
unfolding ends kept_at
ends-taken host refused accepted words Going w e = refl
ends-taken host refused accepted words (Stopped (Refused x)) w e = sym e
ends-taken host refused accepted words (Stopped ScriptEnded) w e = sym e
ends-taken host refused accepted words (Stopped TraceFull) w e = sym e

-- a call that was accepted, from the head that its plan left
pub accepted-told : (host refused accepted : Sdmmc) (words : List ℕ) (h : Head) (l : List Row) {r : Called}
    → r ≡ record { answer = Answered.Accepted; words = h.used; rows = h.rows; host = accepted }
    → r ≡ called_of (ends host refused accepted words Going (going_at h l))
unfolding ends
accepted-told host refused accepted words h l e = e

pub kept-none : (q : Pace) → ◌≡◌ {A = List ℕ} [] (kept_at [] [] q)
unfolding kept_at
kept-none Going = refl
kept-none (Stopped x) = refl

-- A call with a data phase, from what its two parts did.
module _ (host : Sdmmc) (transfer : Plan (List ℕ)) (next : State → List ℕ → Sdmmc) (s : List ℕ) where
  -- the data phase is over
  pub data_done : {w w' : State} {v : List ℕ} → w.progress.pace ≡ Going → Gave s (List ℕ) [] transfer w v w'
      → ends host (dropped host w') (next w' v) v w'.progress.pace w' ≡ transferred host transfer next s w
  unfolding transferred
  data_done g e =
      ap (λ (x : After (List ℕ)). ends host (dropped host x.state) (next x.state x.value) x.value x.state.progress.pace x.state)
      (from-there g e)

  -- so what the call is told, and its list, are what it comes to
  pub data-told : {w w' : State} {v : List ℕ} {r : Called} → w.progress.pace ≡ Going → Gave s (List ℕ) [] transfer w v w'
      → r ≡ called_of (ends host (dropped host w') (next w' v) v w'.progress.pace w')
      → (r ≡ called_of (transferred host transfer next s w)) × (w'.list ≡ (transferred host transfer next s w).list)
  data-told {w} {w'} {v} g e told = (
    told ∙ ap called_of (data_done g e),
    sym (ends-list host (dropped host w') (next w' v) v w'.progress.pace w') ∙ ap (λ (x : Came). x.list) (data_done g e),
  )

  -- and the data words are those that its plan gave
  pub data-taken : {w w' : State} {v : List ℕ} → w.progress.pace ≡ Going → Gave s (List ℕ) [] transfer w v w'
      → v ≡ (transferred host transfer next s w).taken
  data-taken {w} {w'} {v} g e =
      sym (ends-taken host (dropped host w') (next w' v) v w'.progress.pace w' (given_where e)) ∙ ap (λ (x : Came). x.taken) (data_done g e)

  at-going : (w : State) {q : Pace} → q ≡ Going → transferred host transfer next s w ≡ approached host transfer next s q w
  unfolding approached
  at-going w g = rw g

  at-stopped : (w : State) {q : Pace} (h : Halt) → q ≡ Stopped h → ends host (kept host w) host [] q w ≡ approached host transfer next s q w
  unfolding approached
  at-stopped w h g = rw g

  module _ (approach : Plan Nothing) (l : List Row) {p : Progress} {l' : List Row} (e : Gave s Nothing tt approach (at (begun host.line) l) tt (at p l')) where
    through : approached host transfer next s p.pace (at p l') ≡ served host approach transfer next s l
    unfolding served
    through = ap (λ (x : After Nothing). approached host transfer next s x.state.progress.pace x.state) (from_start e)

    -- the approach went through
    pub going_on : p.pace ≡ Going → transferred host transfer next s (at p l') ≡ served host approach transfer next s l
    going_on g = at-going (at p l') g ∙ through

    -- it did not
    pub stopped-there : (h : Halt) → p.pace ≡ Stopped h
        → ends host (kept host (at p l')) host [] p.pace (at p l') ≡ served host approach transfer next s l
    stopped-there h g = at-stopped (at p l') h g ∙ through

-- A place that was judged good: whole blocks, 1 to 511.

pub record Good (bytes : ℕ) : Type 0 where
  pub whole : bytes % 512 ≡ 0
  pub some : 1 ≤ bytes / 512
  pub most : bytes / 512 ≤ 511

pub judged-good : (host : Sdmmc) (sends : Bool) (index bytes a : ℕ) → blocks_judged host sends index bytes ≡ Ok a → Good bytes
unfolding blocks_judged
judged-good host sends index bytes a e = by host.known (sends && stops_writes host.card.protection) (eqb (bytes % 512) 0) refl e
  where
    by : (known stops whole : Bool) → eqb (bytes % 512) 0 ≡ whole
        → cond known
        (cond stops (Err E.WriteProtected)
        (cond whole (address_of host.card.card_type host.card.block_count.0 index (bytes / 512)) (Err E.InvalidBufferLength)))
        (Err E.NoCard) ≡ Ok a → Good bytes
    by true false true t e =
        let place = address _ _ _ _ _ e in
        record { whole = eqb-true (bytes % 512) 0 t; some = place.some; most = place.most }
    by true false false t e = let z : ◌≡◌ {A = ℕ} 0 1 = cc in absurd (omega arith)
    by true true whole t e = let z : ◌≡◌ {A = ℕ} 0 1 = cc in absurd (omega arith)
    by false stops whole t e = let z : ◌≡◌ {A = ℕ} 0 1 = cc in absurd (omega arith)

-- The status that a status call gives is the one that the record then has.

abbrev Told : Came → Type 0
Told x = status_given x.answer x.host.card.status ≡ status_given x.answer (sd_status_of x.taken)

ends_held : (host refused accepted : Sdmmc) (words : List ℕ) (q : Pace) (w : State) → accepted.card.status ≡ sd_status_of words
    → Told (ends host refused accepted words q w)
unfolding ends
ends_held host refused accepted words Going w e = e
ends_held host refused accepted words (Stopped (Refused x)) w e = refl
ends_held host refused accepted words (Stopped ScriptEnded) w e = refl
ends_held host refused accepted words (Stopped TraceFull) w e = refl

status-held : (host : Sdmmc) (s : List ℕ) (l : List Row) → Told (status_came host s l)
unfolding status_came served approached transferred ends
status-held host s l = by_cases Told host.known _ _ (by w.progress.pace) refl
  where
    w : State
    w = (run s (tt {0}) (app_command (limit_of host.settings) host.card.rca) 0 0 host.line l).state

    by : (q : Pace) → Told (approached host (status_plan host) (status_next host) s q w)
    by Going =
        let x = run_from s [] (status_plan host) w in
        ends_held host (dropped host x.state) (status_next host x.state x.value) x.value x.state.progress.pace x.state refl
    by (Stopped (Refused e)) = refl
    by (Stopped ScriptEnded) = refl
    by (Stopped TraceFull) = refl

pub status-read : (host : Sdmmc) (s : List ℕ) (l : List Row) (r : Called) (status : List ℕ) → r ≡ called_of (status_came host s l)
    → status ≡ status_given r.answer r.host.card.status
    → record { answer = r.answer; words = r.words; rows = r.rows; status = status; host = r.host } ≡ status_read_of (status_came host s l)
status-read host s l r status e given =
    let held : status ≡ status_given (status_came host s l).answer (sd_status_of (status_came host s l).taken) =
    given ∙ ap (λ (x : Called). status_given x.answer x.host.card.status) e ∙ status-held host s l in
    rw (e, held)
