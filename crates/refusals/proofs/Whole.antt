-- Theorems about whole calls. Each call does what its one plan does (`initialise-ran`, `blocks-ran`, `status-ran`); from that, of
-- every call: when it answers 22, and how many rows it has then written; whence a 17 and a 26 come; and that an accepted read has
-- filled its whole buffer. (21: Ended.antt.)
use Rattle.std.specs.Prelude.{Result, Ok, Err}
use Prim.Native.Nat.{ℕ, ◌+◌, ◌*◌, ◌/◌, ◌%◌, ◌≤◌, ◌<◌, ◌^◌, min}
use mathlib.Core.Bool.{Bool, true, false, cond, ◌&&◌, ◌||◌}
use mathlib.Core.List.{List, [], append-nil}
use mathlib.Core.Path.{◌≡◌, refl, ap, sym, ◌∙◌}
use native.Mathlib.Omega.{arith}
use native.Mathlib.Decide.{dec_le}
use lib.Dec.{eqb, ltb}
use lib.ListN.{length, take, drop, drop_of_length-le}
use lib.Seq.{take_all}
use borrow.Author.Tests.{le-ltb}
use Rattle.types.specs.declared.card.Card.{Card}
use Rattle.types.specs.declared.card.CardCapacity.{CardCapacity}
use Rattle.types.specs.declared.card.CardCapacity.TheVariants.{SDSC, SDHC}
use Rattle.types.specs.declared.clock.Clock.{Clock}
use Rattle.types.specs.declared.error.Answer.TheVariants as Answered
use Rattle.types.specs.declared.error.Error.{Error}
use Rattle.types.specs.declared.error.Error.TheVariants as E
use Rattle.types.specs.Answer.{error_told}
use Rattle.types.specs.Leaf.{address_of, clock_of, stops_writes, units_of}
use Rattle.types.specs.Words.{bytes_of}
use Rattle.tape.specs.declared.progress.Halt.TheVariants.{Refused, ScriptEnded, TraceFull}
use Rattle.tape.specs.declared.progress.Line.{Line}
use Rattle.tape.specs.Pace.{Pace}
use Rattle.tape.specs.Pace.{Going, Stopped}
use Rattle.tape.specs.declared.rows.Row.{Row}
use Rattle.tape.specs.Plan.{Nothing, Plan, refuse, fail, ◌then◌}
use Rattle.tape.specs.Run.{State, After, run, run_from, next_at}
use Rattle.tape.proofs.Laws.{from-going, run-handle}
use Rattle.tape.proofs.Room.{free, is_full, run_fits, run-full, full_exactly}
use Rattle.tape.proofs.Values.{given}
use Rattle.tape.proofs.Walk.{Rule, Obeys, Obeyed, run-obeys, on-fail, on_test, on_then}
use Rattle.bus.specs.Command.{app_command}
use Rattle.bus.specs.Ready.{wait_ready}
use Rattle.bus.specs.Transfer.{Buffer, incoming}
use Rattle.bus.proofs.Bounds.{count_in, gives-words}
use Rattle.bus.proofs.Delays.{fair}
use Rattle.bus.proofs.Walks.{Other, not_13, not_17, not_26, app-obeys, ready-obeys, data_obeys}
use Rattle.init.specs.Initialise.{source_of, limit_of, no_card, initialise}
use Rattle.init.proofs.Walks.{clock_rule, initialise-obeys}
use Rattle.host.specs.declared.host.Sdmmc.{Sdmmc}
use Rattle.host.specs.Calls.{Came, untouched, holding, dropped, kept, ends, fresh_line, init_from, initialised}
use Rattle.host.specs.Calls.{transferred, approached, served, blocks_next, blocks_transfer, blocks_plan, blocks_from, blocks_judged, sends, blocks_came, read_came, blocks_filled, buffer_of}
use Rattle.host.specs.Calls.{status_next, status_plan, status_came}
use Rattle.host.proofs.Ran.{judged-good}
use Rattle.refusals.specs.Whole.{init_at, init_whole, blocks_at, blocks_whole, status_whole, answer_of, Ran}

-- Each call does what its plan does.

ends-ran : {A : Type 0} (v : A) (host refused accepted : Sdmmc) (words : List ℕ) (w : State)
    → Ran (ends host refused accepted words w.progress.pace w) (record { value = v; state = w })
unfolding ends
ends-ran {A} v host refused accepted words w = by w.progress.pace refl
  where
    by : (q : Pace) → w.progress.pace ≡ q → Ran (ends host refused accepted words q w) (record { value = v; state = w })
    by Going g = record { answer = rw g; words = refl; rows = refl; list = refl }
    by (Stopped (Refused e)) g = record { answer = rw g; words = refl; rows = refl; list = refl }
    by (Stopped ScriptEnded) g = record { answer = rw g; words = refl; rows = refl; list = refl }
    by (Stopped TraceFull) g = record { answer = rw g; words = refl; rows = refl; list = refl }

-- a call that is refused before its first step
untouched-ran : {A : Type 0} (d : A) (host : Sdmmc) (e : Error) (s : List ℕ) (l : List Row) → Ran (untouched host e l) (run s d (fail e) 0 0 host.line l)
unfolding run
untouched-ran d host e s l = record { answer = refl; words = refl; rows = refl; list = refl }

-- the same run, told otherwise
as_run : {A : Type 0} {x : Came} {y z : After A} → z ≡ y → Ran x y → Ran x z
as_run e ran = rw e ran

-- two plans, one after the other
served-ran : (host : Sdmmc) (approach : Plan Nothing) (transfer : Plan (List ℕ)) (next : State → List ℕ → Sdmmc) (s : List ℕ) (l : List Row)
    → Ran (served host approach transfer next s l) (run s [] (approach then λ _. transfer) 0 0 host.line l)
unfolding served approached transferred next_at run ends
served-ran host approach transfer next s l =
    as_run (run-handle s (tt {0}) [] (λ _. transfer) refuse approach 0 0 host.line l) (by w.progress.pace)
  where
    w : State
    w = (run s (tt {0}) approach 0 0 host.line l).state

    by : (q : Pace) → Ran (approached host transfer next s q w) (next_at s [] (λ (_ : Nothing). transfer) refuse tt q w)
    by Going = let x = run_from s [] transfer w in ends-ran x.value host (dropped host x.state) (next x.state x.value) x.value x.state
    by (Stopped (Refused e)) = record { answer = refl; words = refl; rows = refl; list = refl }
    by (Stopped ScriptEnded) = record { answer = refl; words = refl; rows = refl; list = refl }
    by (Stopped TraceFull) = record { answer = refl; words = refl; rows = refl; list = refl }

both : {X Y : Type 0} (P : X → Y → Type 0) (b : Bool) {x x' : X} {y y' : Y} → P x y → P x' y' → P (cond b x x') (cond b y y')
both P true e e' = e
both P false e e' = e'

module _ (host : Sdmmc) (s : List ℕ) (l : List Row) where
  abbrev does : {A : Type 0} → A → Came → Plan A → Type 0
  does d x p = Ran x (run s d p 0 0 host.line l)

  pub initialise-ran : (frequency : ℕ) → Ran (initialised host frequency s l) (run s no_card (init_whole host frequency) 0 0 host.line l)
  unfolding initialised init_whole init_from init_at run
  initialise-ran frequency =
      both (does no_card) (eqb frequency 0 || ltb 50_000_000 frequency) (untouched-ran no_card host E.BadClock s l)
      (at (clock_of (source_of host.settings) 400_000 false))
    where
      at : (a : Result Clock Error) → Ran (init_from host frequency a s l) (run s no_card (init_at host frequency a) 0 0 host.line l)
      at (Err e) = untouched-ran no_card host e s l
      at (Ok c) =
          let x = run s no_card (initialise host.settings c frequency) 0 0 (fresh_line c.frequency) l in
          ends-ran x.value host (dropped host x.state) (holding host x.state x.value) [] x.state

  pub blocks-ran : (buffer : Buffer) (index bytes : ℕ) → Ran (blocks_came host buffer index bytes s l) (run s [] (blocks_whole host buffer index bytes) 0 0 host.line l)
  unfolding blocks_came blocks_from blocks_whole blocks_at
  blocks-ran buffer index bytes = at (blocks_judged host (sends buffer) index bytes)
    where
      at : (a : Result ℕ Error) → Ran (blocks_from host buffer (bytes / 512) a s l) (run s [] (blocks_at host buffer (bytes / 512) a) 0 0 host.line l)
      at (Err e) = untouched-ran [] host e s l
      at (Ok a) =
          served-ran host (wait_ready (source_of host.settings) host.settings.config host.card.rca) (blocks_plan host buffer a (bytes / 512)) (blocks_next host) s l

  pub status-ran : Ran (status_came host s l) (run s [] (status_whole host) 0 0 host.line l)
  unfolding status_came status_whole
  status-ran =
      both (does []) host.known
      (served-ran host (app_command (limit_of host.settings) host.card.rca) (status_plan host) (status_next host) s l)
      (untouched-ran [] host E.NoCard s l)

-- 22, and the rows: a call that would write so many rows, given endless room, answers 22 exactly where there is room for
-- fewer, and writes as many as there is room for.
pub record Roomed (l : List Row) (would : ℕ) (x : Came) : Type 0 where
  pub full : x.answer ≡ Answered.TraceFull → length l < would
  pub over : length l < would → x.answer ≡ Answered.TraceFull
  pub rows : x.rows ≡ min (length l) would

-- the rows that a plan would write
abbrev pub would_write : {A : Type 0} → List ℕ → A → Plan A → Line → ℕ
would_write s d p h = length (free s d p 0 h).rows

answered-full : (q : Pace) → answer_of q ≡ Answered.TraceFull → is_full q ≡ true
answered-full Going e = let z : ◌≡◌ {A = ℕ} 0 1 = cc in absurd (omega arith)
answered-full (Stopped (Refused x)) e = let z : ◌≡◌ {A = ℕ} 0 1 = cc in absurd (omega arith)
answered-full (Stopped ScriptEnded) e = let z : ◌≡◌ {A = ℕ} 0 1 = cc in absurd (omega arith)
answered-full (Stopped TraceFull) e = refl

not-both : {b : Bool} → b ≡ true → b ≡ false → ⊥
not-both t f = let z : ◌≡◌ {A = ℕ} 0 1 = cc in omega arith

room : {A : Type 0} (d : A) (p : Plan A) (h : Line) (s : List ℕ) (l : List Row) (x : Came) → Ran x (run s d p 0 0 h l) → Roomed l (would_write s d p h) x
room {A} d p h s l x ran = by (dec_le (would_write s d p h) (length l))
  where
    by : Dec (would_write s d p h ≤ length l) → Roomed l (would_write s d p h) x
    by (yes fits) =
        let all = run_fits s d p 0 0 h l (omega arith) in
        record {
          full = λ f.
              absurd (not-both (answered-full (run s d p 0 0 h l).state.progress.pace (sym ran.answer ∙ f))
              (full_exactly s d p 0 0 h l (omega arith) ∙ le-ltb (length l) (0 + would_write s d p h) (omega arith)));
          over = λ less. absurd (omega arith);
          rows = ran.rows ∙ ap (λ (y : After A). y.state.progress.rows) all ∙ omega arith;
        }
    by (no over) =
        let some = run-full s d (record { row = record { register = 0; value = 0 }; used = 0; line = h }) p 0 0 h l (length l) (omega arith) (omega arith) in
        record {
          full = λ f. omega arith;
          over = λ less. ran.answer ∙ ap (λ (y : After A). answer_of y.state.progress.pace) some;
          rows = ran.rows ∙ ap (λ (y : After A). y.state.progress.rows) some ∙ omega arith;
        }

pub initialise-room : (host : Sdmmc) (frequency : ℕ) (s : List ℕ) (l : List Row)
    → Roomed l (would_write s no_card (init_whole host frequency) host.line) (initialised host frequency s l)
initialise-room host frequency s l = room no_card (init_whole host frequency) host.line s l _ (initialise-ran host s l frequency)

pub blocks-room : (host : Sdmmc) (buffer : Buffer) (index bytes : ℕ) (s : List ℕ) (l : List Row)
    → Roomed l (would_write s [] (blocks_whole host buffer index bytes) host.line) (blocks_came host buffer index bytes s l)
blocks-room host buffer index bytes s l = room [] (blocks_whole host buffer index bytes) host.line s l _ (blocks-ran host s l buffer index bytes)

pub status-room : (host : Sdmmc) (s : List ℕ) (l : List Row) → Roomed l (would_write s [] (status_whole host) host.line) (status_came host s l)
status-room host s l = room [] (status_whole host) host.line s l _ (status-ran host s l)

-- 17, from what holds along a call's plan.

pub refused-pace : (q : Pace) (e : Error) → answer_of q ≡ Answered.Refused e → q ≡ Stopped (Refused e)
refused-pace Going e r = let z : ◌≡◌ {A = ℕ} 0 1 = cc in absurd (omega arith)
refused-pace (Stopped (Refused x)) e r = let same : x ≡ e = cc in rw same
refused-pace (Stopped ScriptEnded) e r = let z : ◌≡◌ {A = ℕ} 0 1 = cc in absurd (omega arith)
refused-pace (Stopped TraceFull) e r = let z : ◌≡◌ {A = ℕ} 0 1 = cc in absurd (omega arith)

pub ended-pace : (q : Pace) → answer_of q ≡ Answered.ScriptEnded → q ≡ Stopped ScriptEnded
ended-pace Going r = let z : ◌≡◌ {A = ℕ} 0 1 = cc in absurd (omega arith)
ended-pace (Stopped (Refused x)) r = let z : ◌≡◌ {A = ℕ} 0 1 = cc in absurd (omega arith)
ended-pace (Stopped ScriptEnded) r = refl
ended-pace (Stopped TraceFull) r = let z : ◌≡◌ {A = ℕ} 0 1 = cc in absurd (omega arith)

allowed-error : {A : Type 0} {rule : Rule} {s : List ℕ} {x : Came} {y : After A} → Ran x y → Obeyed rule s 0 y
    → (e : Error) → x.answer ≡ Answered.Refused e → rule.refuses e
allowed-error ran o e r = o.refused e (refused-pace _ e (sym ran.answer ∙ r))

-- a rule about refusals alone
abbrev pub refusal_rule : (Error → Type 0) → Rule
refusal_rule R = record { holds = λ h. Unit {0}; writes = λ r. Unit {0}; refuses = R; noted = λ r h i. tt }

-- a write that a protected card stops
pub record Stopped-by (host : Sdmmc) (buffer : Buffer) : Type 0 where
  pub known : host.known ≡ true
  pub stops : (sends buffer && stops_writes host.card.protection) ≡ true

-- a read or a write is refused with neither UnsupportedCardType nor BadClock, and with WriteProtected only as such a write; a
-- status call with neither BadClock nor WriteProtected
pub record Plain (host : Sdmmc) (buffer : Buffer) (e : Error) : Type 0 where
  pub typed : (error_told e).number ≡ 13 → ⊥
  pub timed : (error_told e).number ≡ 17 → ⊥
  pub barred : (error_told e).number ≡ 26 → Stopped-by host buffer

plain_other : {host : Sdmmc} {buffer : Buffer} (e : Error) → Other e → Plain host buffer e
plain_other e o = record { typed = not_13 e o; timed = not_17 e o; barred = λ z. absurd (not_26 e o z) }

abbrev pub plain : Sdmmc → Buffer → Rule
plain host buffer = refusal_rule (Plain host buffer)

abbrev pub unclocked : Rule
unclocked = refusal_rule (λ e. ((error_told e).number ≡ 17 → ⊥) × ((error_told e).number ≡ 26 → ⊥))

units-other : (class : CardCapacity) (index : ℕ) (e : Error) → units_of class index ≡ Err e → Other e
unfolding units_of error_told
units-other SDSC index e r = by (ltb (512 * index) (2 ^ 32)) r
  where
    by : (b : Bool) → cond b (Ok (512 * index)) (Err E.AddressOutOfRange) ≡ Err e → Other e
    by true r = let no : ◌≡◌ {A = ℕ} 0 1 = cc in absurd (omega arith)
    by false r = let same : e ≡ E.AddressOutOfRange = cc in rw same
units-other SDHC index e r = let no : ◌≡◌ {A = ℕ} 0 1 = cc in absurd (omega arith)

address-other : (class : CardCapacity) (blocks index count : ℕ) (e : Error) → address_of class blocks index count ≡ Err e → Other e
unfolding address_of error_told
address-other class blocks index count e r = by (eqb count 0 || ltb 511 count) (ltb blocks (index + count)) r
  where
    by : (a b : Bool)
        → cond a (Err E.InvalidBufferLength) (cond b (Err E.AddressOutOfRange) (units_of class index)) ≡ Err e → Other e
    by true b r = let same : e ≡ E.InvalidBufferLength = cc in rw same
    by false true r = let same : e ≡ E.AddressOutOfRange = cc in rw same
    by false false r = units-other class index e r

module _ (host : Sdmmc) where
  judged-plain : (buffer : Buffer) (index bytes : ℕ) (e : Error) → blocks_judged host (sends buffer) index bytes ≡ Err e → Plain host buffer e
  unfolding blocks_judged error_told
  judged-plain buffer index bytes e r = by host.known (sends buffer && stops_writes host.card.protection) (eqb (bytes % 512) 0) refl refl r
    where
      by : (known stops whole : Bool) → host.known ≡ known → (sends buffer && stops_writes host.card.protection) ≡ stops
          → cond known
          (cond stops (Err E.WriteProtected)
          (cond whole (address_of host.card.card_type host.card.block_count.0 index (bytes / 512)) (Err E.InvalidBufferLength)))
          (Err E.NoCard) ≡ Err e → Plain host buffer e
      by false stops whole k p r = let same : E.NoCard ≡ e = cc in rw (← same) (plain_other E.NoCard refl)
      by true true whole k p r =
          let same : E.WriteProtected ≡ e = cc in
          rw (← same) (record { typed = λ z. omega arith; timed = λ z. omega arith; barred = λ z. record { known = k; stops = p } })
      by true false true k p r = plain_other e (address-other _ _ _ _ e r)
      by true false false k p r = let same : E.InvalidBufferLength ≡ e = cc in rw (← same) (plain_other E.InvalidBufferLength refl)

  pub blocks-walk : (buffer : Buffer) (index bytes : ℕ) → Obeys (plain host buffer) (List ℕ) (blocks_whole host buffer index bytes)
  unfolding blocks_whole blocks_at
  blocks-walk buffer index bytes = at (blocks_judged host (sends buffer) index bytes) refl
    where
      at : (a : Result ℕ Error) → blocks_judged host (sends buffer) index bytes ≡ a → Obeys (plain host buffer) (List ℕ) (blocks_at host buffer (bytes / 512) a)
      at (Err e) r = on-fail (judged-plain buffer index bytes e r)
      at (Ok a) r =
          on_then (ready-obeys (plain host buffer) plain_other (λ r o. tt) _ _ _) (λ _. data_obeys (plain host buffer) plain_other (λ r o. tt) (λ r. tt) _ _ _ _ _)

  unclocked-other : (e : Error) → Other e → ((error_told e).number ≡ 17 → ⊥) × ((error_told e).number ≡ 26 → ⊥)
  unclocked-other e o = (not_17 e o, not_26 e o)

  pub status-walk : Obeys unclocked (List ℕ) (status_whole host)
  unfolding status_whole error_told
  status-walk =
      on_test host.known (on_then (app-obeys unclocked unclocked-other (λ r o. tt) (λ z. omega arith, λ z. omega arith) _ _) (λ _. data_obeys unclocked unclocked-other (λ r o. tt) (λ r. tt) _ _ _ _ _))
      (on-fail (λ z. omega arith, λ z. omega arith))

  module _ (s : List ℕ) (l : List Row) where
    blocks_obeyed : (buffer : Buffer) (index bytes : ℕ) → Obeyed (plain host buffer) s 0 (run s [] (blocks_whole host buffer index bytes) 0 0 host.line l)
    blocks_obeyed buffer index bytes = run-obeys (plain host buffer) s [] (blocks_whole host buffer index bytes) 0 0 host.line l (blocks-walk buffer index bytes).each tt

    status_obeyed : Obeyed unclocked s 0 (run s [] (status_whole host) 0 0 host.line l)
    status_obeyed = run-obeys unclocked s [] (status_whole host) 0 0 host.line l status-walk.each tt

    -- neither is refused with 17
    pub blocks_not_17 : (buffer : Buffer) (index bytes : ℕ) (e : Error) → (blocks_came host buffer index bytes s l).answer ≡ Answered.Refused e → (error_told e).number ≡ 17 → ⊥
    blocks_not_17 buffer index bytes e r = (allowed-error (blocks-ran host s l buffer index bytes) (blocks_obeyed buffer index bytes) e r).timed

    -- nor a read or a write with 13
    pub blocks_not_13 : (buffer : Buffer) (index bytes : ℕ) (e : Error) → (blocks_came host buffer index bytes s l).answer ≡ Answered.Refused e → (error_told e).number ≡ 13 → ⊥
    blocks_not_13 buffer index bytes e r = (allowed-error (blocks-ran host s l buffer index bytes) (blocks_obeyed buffer index bytes) e r).typed

    pub status_not_17 : (e : Error) → (status_came host s l).answer ≡ Answered.Refused e → (error_told e).number ≡ 17 → ⊥
    status_not_17 e r = (allowed-error (status-ran host s l) status_obeyed e r).0

    -- whence a 26 comes: a write, on a card that is protected; no status call has one
    pub blocks_26 : (buffer : Buffer) (index bytes : ℕ) → (blocks_came host buffer index bytes s l).answer ≡ Answered.Refused E.WriteProtected → Stopped-by host buffer
    unfolding error_told
    blocks_26 buffer index bytes r = (allowed-error (blocks-ran host s l buffer index bytes) (blocks_obeyed buffer index bytes) E.WriteProtected r).barred refl

    pub status_not_26 : (e : Error) → (status_came host s l).answer ≡ Answered.Refused e → (error_told e).number ≡ 26 → ⊥
    status_not_26 e r = (allowed-error (status-ran host s l) status_obeyed e r).1

-- An initialisation, of a host such as is made: its source is 2 Hz or more and has a clock of identification.

-- whence a 17 comes: the asked frequency is not allowed, or `clock_setting` refuses the request for the card's clock
pub data Whence17 (host : Sdmmc) (frequency : ℕ) : Type 0 where
  asked : (eqb frequency 0 || ltb 50_000_000 frequency) ≡ true → Whence17 host frequency
  setting : (requested : ℕ) → clock_of (source_of host.settings) requested host.settings.config.allow_clock_bypass ≡ Err E.BadClock → Whence17 host frequency

module _ (host : Sdmmc) (from2 : 2 ≤ source_of host.settings) (c : Clock) (clocked : clock_of (source_of host.settings) 400_000 false ≡ Ok c) (frequency : ℕ) (s : List ℕ) (l : List Row) where
  -- one of allowed frequency
  abbrev pub steps : After Card
  steps = run s no_card (initialise host.settings c frequency) 0 0 (fresh_line c.frequency) l

  pub steps-ran : Ran (init_from host frequency (Ok c) s l) steps
  unfolding init_from
  steps-ran = ends-ran steps.value host (dropped host steps.state) (holding host steps.state steps.value) [] steps.state

  steps_obeyed : Obeyed (clock_rule host.settings) s 0 steps
  steps_obeyed =
      let f = fair _ 400_000 false c from2 clocked in
      run-obeys (clock_rule host.settings) s no_card (initialise host.settings c frequency) 0 0 (fresh_line c.frequency) l
      (initialise-obeys host.settings from2 c frequency f).each f

  -- a 17 is never the delay's own
  pub initialise_17 : (initialised host frequency s l).answer ≡ Answered.Refused E.BadClock → Whence17 host frequency
  unfolding initialised error_told
  initialise_17 r = by (eqb frequency 0 || ltb 50_000_000 frequency) refl (rw clocked at r)
    where
      by : (b : Bool) → (eqb frequency 0 || ltb 50_000_000 frequency) ≡ b
          → (cond b (untouched host E.BadClock l) (init_from host frequency (Ok c) s l)).answer ≡ Answered.Refused E.BadClock → Whence17 host frequency
      by true t r = asked t
      by false t r = let told = allowed-error steps-ran steps_obeyed E.BadClock r refl in setting told.0 told.1

-- An accepted read has taken exactly 128 words a block, and a write none.
Exact : Buffer → ℕ → Came → Type 0
Exact buffer bytes x = x.answer ≡ Answered.Accepted → (bytes % 512 ≡ 0) × (length x.taken ≡ count_in buffer (128 * (bytes / 512)))

ends_exact : (buffer : Buffer) (host refused accepted : Sdmmc) (words : List ℕ) (bytes : ℕ) (q : Pace) (w : State)
    → (q ≡ Going → (bytes % 512 ≡ 0) × (length words ≡ count_in buffer (128 * (bytes / 512)))) → Exact buffer bytes (ends host refused accepted words q w)
unfolding Exact ends
ends_exact buffer host refused accepted words bytes Going w e = λ r. e refl
ends_exact buffer host refused accepted words bytes (Stopped (Refused x)) w e = λ r. let z : ◌≡◌ {A = ℕ} 0 1 = cc in absurd (omega arith)
ends_exact buffer host refused accepted words bytes (Stopped ScriptEnded) w e = λ r. let z : ◌≡◌ {A = ℕ} 0 1 = cc in absurd (omega arith)
ends_exact buffer host refused accepted words bytes (Stopped TraceFull) w e = λ r. let z : ◌≡◌ {A = ℕ} 0 1 = cc in absurd (omega arith)

untouched_exact : (buffer : Buffer) (host : Sdmmc) (e : Error) (l : List Row) (bytes : ℕ) → Exact buffer bytes (untouched host e l)
unfolding Exact
untouched_exact buffer host e l bytes = λ r. let z : ◌≡◌ {A = ℕ} 0 1 = cc in absurd (omega arith)

module _ (host : Sdmmc) (buffer : Buffer) (index bytes : ℕ) (s : List ℕ) (l : List Row) where
  from_exact : (answer : Result ℕ Error) → ((a : ℕ) → answer ≡ Ok a → bytes % 512 ≡ 0)
      → Exact buffer bytes (blocks_from host buffer (bytes / 512) answer s l)
  unfolding blocks_from served approached transferred
  from_exact (Err e) whole = untouched_exact buffer host e l bytes
  from_exact (Ok a) whole = by w.progress.pace refl
    where
      w : State
      w = (run s (tt {0}) (wait_ready (source_of host.settings) host.settings.config host.card.rca) 0 0 host.line l).state

      by : (q : Pace) → w.progress.pace ≡ q → Exact buffer bytes (approached host (blocks_plan host buffer a (bytes / 512)) (blocks_next host) s q w)
      by Going g =
          let x = run_from s [] (blocks_plan host buffer a (bytes / 512)) w in
          let gave = from-going {s = s} {d = []} {p = blocks_plan host buffer a (bytes / 512)} {w = w} {v = x.value} {w' = x.state} g refl in
          let words = gives-words (source_of host.settings) host.settings.config buffer (blocks_transfer buffer a (bytes / 512)) host.card.rca in
          ends_exact buffer host (dropped host x.state) (blocks_next host x.state x.value) x.value bytes x.state.progress.pace x.state
          (λ through. (whole a refl, given words gave through))
      by (Stopped h) g = ends_exact buffer host (kept host w) host [] bytes (Stopped h) w (λ through. let z : ◌≡◌ {A = ℕ} 0 1 = cc in absurd (omega arith))

  pub blocks_exact : (blocks_came host buffer index bytes s l).answer ≡ Answered.Accepted
      → (bytes % 512 ≡ 0) × (length (blocks_came host buffer index bytes s l).taken ≡ count_in buffer (128 * (bytes / 512)))
  unfolding blocks_came Exact
  blocks_exact = from_exact (blocks_judged host (sends buffer) index bytes) (λ a j. (judged-good host (sends buffer) index bytes a j).whole)

module _ (host : Sdmmc) (index bytes : ℕ) (s : List ℕ) (l : List Row) where
  pub read_exact : (read_came host index bytes s l).answer ≡ Answered.Accepted
      → (bytes % 512 ≡ 0) × (length (read_came host index bytes s l).taken ≡ 128 * (bytes / 512))
  unfolding count_in
  read_exact r = blocks_exact host incoming index bytes s l r

  -- so it has filled every byte of a buffer of its length: nothing in it is stale
  pub read-filled : (buffer : List ℕ) → length buffer ≡ bytes → (read_came host index bytes s l).answer ≡ Answered.Accepted
      → buffer_of (read_came host index bytes s l) buffer ≡ bytes_of (read_came host index bytes s l).taken
  unfolding blocks_filled
  read-filled buffer long r =
      let ws = (read_came host index bytes s l).taken in
      let exact = read_exact r in
      let blocks : min (length ws / 128) (length buffer / 512) ≡ bytes / 512 = omega (arith, exact.0, exact.1) in
      let words : take (128 * (bytes / 512)) ws ≡ ws = take_all (128 * (bytes / 512)) ws (omega (arith, exact.1)) in
      let rest : drop (512 * (bytes / 512)) buffer ≡ [] = drop_of_length-le buffer {i = 512 * (bytes / 512)} (omega (arith, exact.0)) in
      rw (blocks, words, rest) (append-nil (bytes_of ws))
