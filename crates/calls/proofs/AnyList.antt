-- The order's third demand, proved of the definitions that the methods' contracts cite: any list of calls on one host.
use Rattle.std.specs.Prelude.{Result, Ok, Err}
use Rattle.types.specs.declared.error.Error.{Error}
use Prim.Native.Nat.{ℕ, ◌/◌}
use mathlib.Core.Bool.{Bool, true, false, cond, not, ◌||◌}
use mathlib.Core.List.{List, [], ◌∷◌}
use mathlib.Core.Path.{◌≡◌, refl, ap, sym, ◌∙◌}
use native.Mathlib.Omega.{arith}
use lib.Dec.{eqb, ltb}
use lib.ListN.{length}
use Rattle.types.specs.declared.card.Card.{Card}
use Rattle.types.specs.declared.clock.Clock.{Clock}
use Rattle.types.specs.declared.error.Answer.{Answer}
use Rattle.types.specs.declared.error.Answer.TheVariants as Answered
use Rattle.types.specs.declared.error.Error.TheVariants as E
use Rattle.types.specs.Leaf.{clock_of}
use Rattle.types.specs.Settings.{made_of}
use Rattle.types.specs.Words.{sd_status_of, words_of}
use Rattle.tape.specs.declared.progress.Halt.TheVariants.{Refused, ScriptEnded, TraceFull}
use Rattle.tape.specs.Pace.{Pace}
use Rattle.tape.specs.Pace.{Going, Stopped}
use Rattle.tape.specs.declared.rows.Row.{Row}
use Rattle.tape.specs.Plan.{Nothing, Cause, failed, ended, Plan}
use Rattle.tape.specs.Run.{State, halt_of, run, run_from}
use Rattle.bus.specs.Command.{app_command}
use Rattle.bus.specs.Ready.{wait_ready}
use Rattle.bus.specs.Transfer.{Buffer, incoming, outgoing}
use Rattle.init.specs.declared.settings.Settings.{Settings}
use Rattle.init.specs.Initialise as I
use Rattle.init.specs.Initialise.{source_of, limit_of, no_card}
use Rattle.host.specs.Calls.{answer_for}
use Rattle.refusals.proofs.InitRefusals.{found}
use Rattle.refusals.proofs.Untouched.{blocks_16, status_16}
use Rattle.refusals.proofs.Leaves.{Leaves, initialise-leaves, blocks-leaves, status-leaves}
use Rattle.host.specs.declared.host.Held.{Held}
use Rattle.host.specs.declared.host.Sdmmc.{Sdmmc}
use Rattle.host.specs.Calls.{Came, fresh_line, host_of, held_of, holding, dropped, kept, ends, untouched, with_status, initialised, init_from}
use Rattle.host.specs.Calls.{transferred, approached, served, blocks_next, blocks_plan, blocks_from, blocks_judged, sends, blocks_came, status_next, status_plan, status_from, status_came}
use Rattle.host.specs.Calls.{clocked_host, judged_host, made}
use Rattle.calls.specs.Serve.{Call, initialise, read, write, status, comes, Served, serve, found_from, found_by, approach, none, approach_of, addressed, blocks_approach, going, passed, begun}
use Rattle.calls.specs.Serve.{Told, told_of, left_out, as_new, remaining, counted, history, holds, holds_none, allowed, after_initialise, after_data, after_call, expected}

-- What a call that came to x makes of the record that was held before: nothing where it is left out.
abbrev Follows : Sdmmc → (Answer → List ℕ → Held) → Came → Type 0
Follows host rule x = held_of x.host ≡ cond (left_out x.answer) (held_of host) (rule x.answer x.taken)

-- how its plan ends: what `ends` makes of the record, from what the two hosts hold that it may leave
held_at : (host refused accepted : Sdmmc) (words : List ℕ) (rule : Answer → List ℕ → Held) (q : Pace) (w : State)
    → ((e : Cause) → q ≡ Stopped (halt_of e) → held_of refused ≡ rule (answer_for e) []) → (q ≡ Going → held_of accepted ≡ rule Answered.Accepted words)
    → Follows host rule (ends host refused accepted words q w)
unfolding ends left_out
held_at host refused accepted words rule Going w out in' = in' refl
held_at host refused accepted words rule (Stopped (Refused e)) w out in' = out (failed e) refl
held_at host refused accepted words rule (Stopped ScriptEnded) w out in' = out ended refl
held_at host refused accepted words rule (Stopped TraceFull) w out in' = refl

-- An initialisation.

-- refused, of allowed frequency: no record
allowed-none : (b : Bool) (before : Held) → b ≡ false → holds_none ≡ cond (not b) holds_none before
allowed-none true before e = let z : ◌≡◌ {A = ℕ} 0 1 = cc in absurd (omega arith)
allowed-none false before e = refl

none_left : (frequency : ℕ) (e : Cause) (found : Card) (before : Held) → (eqb frequency 0 || ltb 50_000_000 frequency) ≡ false
    → holds_none ≡ after_initialise frequency (answer_for e) found before
unfolding after_initialise
none_left frequency (failed e) found before may = allowed-none (eqb frequency 0 || ltb 50_000_000 frequency) before may
none_left frequency ended found before may = allowed-none (eqb frequency 0 || ltb 50_000_000 frequency) before may

module _ (host : Sdmmc) (frequency : ℕ) (s : List ℕ) (l : List Row) (c : Clock) (clocked : clock_of (source_of host.settings) 400_000 false ≡ Ok c) where
  abbrev init_rule : Answer → List ℕ → Held
  init_rule a words = after_initialise frequency a (found_by host.settings (initialise frequency s l)) (held_of host)

  initialise-follows : Follows host init_rule (initialised host frequency s l)
  unfolding initialised init_from found_by found_from left_out after_initialise
  initialise-follows = rw clocked (by (eqb frequency 0 || ltb 50_000_000 frequency) refl)
    where
      by : (b : Bool) → (eqb frequency 0 || ltb 50_000_000 frequency) ≡ b
          → Follows host (λ a words. after_initialise frequency a (found_from host.settings frequency (Ok c) s l) (held_of host))
          (cond b (untouched host E.BadClock l) (init_from host frequency (Ok c) s l))
      by true t = rw t
      by false t =
          let x = run s no_card (I.initialise host.settings c frequency) 0 0 (fresh_line c.frequency) l in
          held_at host (dropped host x.state) (holding host x.state x.value) []
          (λ a words. after_initialise frequency a x.value (held_of host)) x.state.progress.pace x.state
          (λ e stopped. none_left frequency e x.value (held_of host) t) (λ g. ap (λ (st : List ℕ). holds (with_status x.value st)) (found s host.settings c frequency l g).status)

-- refused with its data phase begun: no record; and before it: the record that was held
lost_in_data : (e : Cause) (accepted before : Held) → after_data (answer_for e) true accepted before ≡ holds_none
unfolding after_data
lost_in_data (failed e) accepted before = refl
lost_in_data ended accepted before = refl

kept_before_data : (e : Cause) (accepted before : Held) → after_data (answer_for e) false accepted before ≡ before
unfolding after_data
kept_before_data (failed e) accepted before = refl
kept_before_data ended accepted before = refl

-- A call with a data phase: `accepted` is what it leaves of the record where it was accepted, from its data words.

module _ (host : Sdmmc) (plan : Plan Nothing) (transfer : Plan (List ℕ)) (next : State → List ℕ → Sdmmc) (accepted : List ℕ → Held)
    (same : (w : State) (ws : List ℕ) → held_of (next w ws) ≡ accepted ws) (s : List ℕ) (l : List Row) where
  abbrev data_rule : Answer → List ℕ → Held
  data_rule a words = after_data a (passed (approach plan) host.line s l) (accepted words) (held_of host)

  served-follows : Follows host data_rule (served host plan transfer next s l)
  unfolding passed served approached transferred going after_data
  served-follows = by w.progress.pace refl
    where
      w : State
      w = (run s (tt {0}) plan 0 0 host.line l).state

      by : (q : Pace) → w.progress.pace ≡ q
          → Follows host (λ a words. after_data a (going q) (accepted words) (held_of host)) (approached host transfer next s q w)
      by Going g =
          let x = run_from s [] transfer w in
          held_at host (dropped host x.state) (next x.state x.value) x.value
          (λ a words. after_data a true (accepted words) (held_of host)) x.state.progress.pace x.state
          (λ e stopped. sym (lost_in_data e (accepted []) (held_of host))) (λ y. same x.state x.value)
      by (Stopped h) g =
          held_at host (kept host w) host [] (λ a words. after_data a false (accepted words) (held_of host)) (Stopped h) w
          (λ e stopped. sym (kept_before_data e (accepted []) (held_of host))) (λ y. let z : ◌≡◌ {A = ℕ} 0 1 = cc in absurd (omega arith))

-- what is to be held after a call, from its answer and data words
abbrev rule_of : Sdmmc → Call → Answer → List ℕ → Held
rule_of host c a words =
    after_call c (record { call = c; answer = a; begun = begun host c; found = found_by host.settings c; taken = words }) (held_of host)

status-follows : (host : Sdmmc) (s : List ℕ) (l : List Row) → Follows host (rule_of host (status s l)) (status_came host s l)
unfolding status_came after_call begun approach_of passed left_out after_data
status-follows host s l = by host.known refl
  where
    by : (b : Bool) → host.known ≡ b
        → Follows host
        (λ a words.
        after_data a (passed (cond b (approach (app_command (limit_of host.settings) host.card.rca)) none) host.line s l)
        (record { answer = (held_of host).answer; card = with_status (held_of host).card (sd_status_of words) }) (held_of host))
        (cond b (status_from host s l) (untouched host E.NoCard l))
    by true k =
        served-follows host (app_command (limit_of host.settings) host.card.rca) (status_plan host) (status_next host)
        (λ ws. record { answer = (held_of host).answer; card = with_status (held_of host).card (sd_status_of ws) }) (λ w ws. rw k) s l
    by false k = refl

-- a read or a write
blocks-follows : (host : Sdmmc) (buffer : Buffer) (index bytes : ℕ) (s : List ℕ) (l : List Row)
    → Follows host (λ r words. after_data r (passed (blocks_approach host (sends buffer) index bytes) host.line s l) (held_of host) (held_of host)) (blocks_came host buffer index bytes s l)
unfolding blocks_came blocks_from blocks_approach passed left_out after_data
blocks-follows host buffer index bytes s l = by (blocks_judged host (sends buffer) index bytes)
  where
    by : (a : Result ℕ Error)
        → Follows host (λ r words. after_data r (passed (addressed host a) host.line s l) (held_of host) (held_of host)) (blocks_from host buffer (bytes / 512) a s l)
    by (Ok a) =
        served-follows host (wait_ready (source_of host.settings) host.settings.config host.card.rca) (blocks_plan host buffer a (bytes / 512)) (blocks_next host)
        (λ ws. held_of host) (λ w ws. refl) s l
    by (Err e) = refl

-- a host whose source has a clock of identification, as every one that is made
unfoldable pub Clockable : Settings → Type 0
Clockable set = (c : Clock) × (clock_of (source_of set) 400_000 false ≡ Ok c)

-- One call: what is held after it is what is expected from what was held before.
follows : (host : Sdmmc) (c : Call) → Clockable host.settings → Follows host (rule_of host c) (comes host c)
unfolding comes after_call begun approach_of Clockable
follows host (initialise frequency s l) k = initialise-follows host frequency s l k.0 k.1
follows host (read index bytes s l) k = blocks-follows host incoming index bytes s l
follows host (write index bytes s l) k = blocks-follows host (outgoing (words_of bytes)) index (length bytes) s l
follows host (status s l) k = status-follows host s l

-- What every call keeps: its settings; and the whole host where it is left out.

abbrev pub list_of : Call → List Row
list_of (initialise frequency s l) = l
list_of (read index bytes s l) = l
list_of (write index bytes s l) = l
list_of (status s l) = l

abbrev pub script_of : Call → List ℕ
script_of (initialise frequency s l) = s
script_of (read index bytes s l) = s
script_of (write index bytes s l) = s
script_of (status s l) = s

pub leaves : (host : Sdmmc) (c : Call) → Leaves host (script_of c) (list_of c) (comes host c)
unfolding comes
leaves host (initialise frequency s l) = initialise-leaves host frequency s l
leaves host (read index bytes s l) = blocks-leaves host incoming index bytes s l
leaves host (write index bytes s l) = blocks-leaves host (outgoing (words_of bytes)) index (length bytes) s l
leaves host (status s l) = status-leaves host s l

-- a call that is left out changes nothing of the host
pub left_out_changes_nothing : (host : Sdmmc) (c : Call) → left_out (comes host c).answer ≡ true → (comes host c).host ≡ host
unfolding left_out
left_out_changes_nothing host c out = by (comes host c).answer refl out
  where
    by : (a : Answer) → (comes host c).answer ≡ a → left_out a ≡ true → (comes host c).host ≡ host
    by Answered.Accepted r o = let z : ◌≡◌ {A = ℕ} 0 1 = cc in absurd (omega arith)
    by (Answered.Refused e) r o = let z : ◌≡◌ {A = ℕ} 0 1 = cc in absurd (omega arith)
    by Answered.ScriptEnded r o = let z : ◌≡◌ {A = ℕ} 0 1 = cc in absurd (omega arith)
    by Answered.TraceFull r o = (leaves host c).full r
    by Answered.BadBook r o = let z : ◌≡◌ {A = ℕ} 0 1 = cc in absurd (omega arith)

-- so they can be left out: the others come to the same, and so does the last host
pub left-out : (host : Sdmmc) (cs : List Call)
    → serve host (remaining host cs) ≡ record { came = counted (serve host cs).came; host = (serve host cs).host }
unfolding serve remaining counted
left-out host [] = refl
left-out host (c ∷ cs) = by (left-out (comes host c).host cs) (left_out (comes host c).answer) refl
  where
    after : Sdmmc
    after = (comes host c).host

    rest : Served
    rest = serve after cs

    by : serve after (remaining after cs) ≡ record { came = counted rest.came; host = rest.host } → (b : Bool) → left_out (comes host c).answer ≡ b
        → serve host (cond b (remaining after cs) (c ∷ remaining after cs))
        ≡ record { came = cond b (counted rest.came) (comes host c ∷ counted rest.came); host = rest.host }
    by so true o = ap (λ (h : Sdmmc). serve h (remaining after cs)) (sym (left_out_changes_nothing host c o)) ∙ so
    by so false o = rw so

-- the settings are those that the host was made with
pub settings-stay : (host : Sdmmc) (cs : List Call) → (serve host cs).host.settings ≡ host.settings
unfolding serve
settings-stay host [] = refl
settings-stay host (c ∷ cs) = settings-stay (comes host c).host cs ∙ (leaves host c).settings

-- A host that was made: of these settings, with a clock of identification, and no record.

pub made-host : (set : Settings) → (made set).answer ≡ Answered.Accepted
    → (c : Clock) × (clock_of (source_of set) 400_000 false ≡ Ok c) × ((made set).host ≡ host_of set (fresh_line c.frequency) false no_card)
unfolding made judged_host clocked_host
made-host set r = by (made_of (source_of set) set.config) (clock_of (source_of set) 400_000 false) refl r
  where
    by : (a : Result (Unit {0}) Error) (k : Result Clock Error) → clock_of (source_of set) 400_000 false ≡ k → (judged_host set a).answer ≡ Answered.Accepted
        → (c : Clock) × (clock_of (source_of set) 400_000 false ≡ Ok c) × ((judged_host set a).host ≡ host_of set (fresh_line c.frequency) false no_card)
    by (Ok tt) (Ok c) e r = (c, e, rw e)
    by (Ok tt) (Err x) e r = let no : Answered.Refused x ≡ Answered.Accepted = rw e at r in let z : ◌≡◌ {A = ℕ} 0 1 = cc in absurd (omega arith)
    by (Err x) k e r = let z : ◌≡◌ {A = ℕ} 0 1 = cc in absurd (omega arith)

pub made-clockable : (set : Settings) → (made set).answer ≡ Answered.Accepted → Clockable (made set).host.settings
unfolding Clockable
made-clockable set ok =
    let m = made-host set ok in
    let new : (made set).host.settings ≡ set = ap (λ (h : Sdmmc). h.settings) m.2 in
    rw new (m.0, m.1)

-- Demand 3, the record. From a host that holds what is expected after some past, one call:
pub after-a-call : (past : List Told) (host : Sdmmc) (c : Call) → Clockable host.settings → held_of host ≡ expected past
    → held_of (comes host c).host ≡ expected (cond (left_out (comes host c).answer) past (told_of host c ∷ past))
unfolding expected
after-a-call past host c k e = follows host c k ∙ by (left_out (comes host c).answer)
  where
    by : (b : Bool) → cond b (held_of host) (after_call c (told_of host c) (held_of host)) ≡ expected (cond b past (told_of host c ∷ past))
    by true = e
    by false = ap (after_call c (told_of host c)) e

-- any list,
after-any-list : (past : List Told) (host : Sdmmc) (cs : List Call) → Clockable host.settings
    → held_of host ≡ expected past → held_of (serve host cs).host ≡ expected (history past host cs)
unfolding serve history
after-any-list past host [] k e = e
after-any-list past host (c ∷ cs) k e =
    after-any-list (cond (left_out (comes host c).answer) past (told_of host c ∷ past)) (comes host c).host cs (rw (leaves host c).settings k)
    (after-a-call past host c k e)

-- and so from a host that was just made, which holds none.
pub record_held : (set : Settings) → (made set).answer ≡ Answered.Accepted → (cs : List Call)
    → held_of (serve (made set).host cs).host ≡ expected (history [] (made set).host cs)
unfolding expected
record_held set ok cs = after-any-list [] (made set).host cs (made-clockable set ok) (rw (made-host set ok).2)

-- Demand 3, the next card.

-- the plan's end is the same on every host, and so is what it leaves
ends_as_new : (h k : Sdmmc) (set : Settings) (card : Card) (words : List ℕ) (q : Pace) (w : State)
    → ends h (host_of set w.progress.line false no_card) (host_of set w.progress.line true card) words q w
    ≡ as_new h (ends k (host_of set w.progress.line false no_card) (host_of set w.progress.line true card) words q w)
unfolding ends left_out
ends_as_new h k set card words Going w = refl
ends_as_new h k set card words (Stopped (Refused e)) w = refl
ends_as_new h k set card words (Stopped ScriptEnded) w = refl
ends_as_new h k set card words (Stopped TraceFull) w = refl

initialise_as_new : (h k : Sdmmc) (frequency : ℕ) (s : List ℕ) (l : List Row) → h.settings ≡ k.settings → Clockable k.settings → allowed frequency ≡ true
    → comes h (initialise frequency s l) ≡ as_new h (comes k (initialise frequency s l))
unfolding Clockable comes initialised init_from
initialise_as_new h k frequency s l e c may =
    let x = run s no_card (I.initialise k.settings c.0 frequency) 0 0 (fresh_line c.0.frequency) l in
    rw (e, c.1, allow (eqb frequency 0 || ltb 50_000_000 frequency) may)
    (ends_as_new (host_of k.settings h.line h.known h.card) k k.settings x.value [] x.state.progress.pace x.state)
  where
    allow : (b : Bool) → not b ≡ true → b ≡ false
    allow true n = let z : ◌≡◌ {A = ℕ} 0 1 = cc in absurd (omega arith)
    allow false n = refl

-- 'An initialisation of allowed frequency answers, writes and uses what a new host of the same settings would on the same
-- script and row list, and but for TraceFull leaves the same host', whatever calls came before it.
pub as_a_new_host : (set : Settings) → (made set).answer ≡ Answered.Accepted → (past : List Call) (frequency : ℕ) (s : List ℕ) (l : List Row) → allowed frequency ≡ true
    → comes (serve (made set).host past).host (initialise frequency s l)
    ≡ as_new (serve (made set).host past).host (comes (made set).host (initialise frequency s l))
as_a_new_host set ok past frequency s l may =
    initialise_as_new (serve (made set).host past).host (made set).host frequency s l (settings-stay (made set).host past) (made-clockable set ok) may

-- For readers: 'a bad card must not colour the next'.

-- a host that holds no record answers 16, and is left as it was
none-known : (host : Sdmmc) → held_of host ≡ holds_none → host.known ≡ false
none-known host e = by host.known host.card e
  where
    by : (b : Bool) (card : Card) → cond b (holds card) holds_none ≡ holds_none → b ≡ false
    by true card r =
        let told : Answered.Accepted ≡ Answered.Refused E.NoCard = ap (λ (held : Held). held.answer) r in
        let z : ◌≡◌ {A = ℕ} 0 1 = cc in absurd (omega arith)
    by false card r = refl

pub read-of-none : (host : Sdmmc) → held_of host ≡ holds_none → (index bytes : ℕ) (s : List ℕ) (l : List Row) → comes host (read index bytes s l) ≡ untouched host E.NoCard l
unfolding comes
read-of-none host e index bytes s l = blocks_16 host s l incoming index bytes (none-known host e)

pub write-of-none : (host : Sdmmc) → held_of host ≡ holds_none → (index : ℕ) (bytes s : List ℕ) (l : List Row) → comes host (write index bytes s l) ≡ untouched host E.NoCard l
unfolding comes
write-of-none host e index bytes s l = blocks_16 host s l (outgoing (words_of bytes)) index (length bytes) (none-known host e)

pub status-of-none : (host : Sdmmc) → held_of host ≡ holds_none → (s : List ℕ) (l : List Row) → comes host (status s l) ≡ untouched host E.NoCard l
unfolding comes
status-of-none host e s l = status_16 host s l (none-known host e)

-- after a refused initialisation of allowed frequency, or one whose script ended, whatever came before it, there is none: so a
-- read answers 16, and a write
module _ (set : Settings) (ok : (made set).answer ≡ Answered.Accepted) (past : List Call) where
  abbrev pub used : Sdmmc
  used = (serve (made set).host past).host

  module _ (frequency : ℕ) (may : allowed frequency ≡ true) (s : List ℕ) (l : List Row) (e : Cause) (refused : (comes used (initialise frequency s l)).answer ≡ answer_for e) where
    pub none-after-a-bad-card : held_of (comes used (initialise frequency s l)).host ≡ holds_none
    unfolding left_out after_call after_initialise
    none-after-a-bad-card = by e refused
      where
        by : (e : Cause) → (comes used (initialise frequency s l)).answer ≡ answer_for e → held_of (comes used (initialise frequency s l)).host ≡ holds_none
        by (failed e) r = rw (r, may) at (follows used (initialise frequency s l) (rw (settings-stay (made set).host past) (made-clockable set ok)))
        by ended r = rw (r, may) at (follows used (initialise frequency s l) (rw (settings-stay (made set).host past) (made-clockable set ok)))

    pub read-after-a-bad-card : (index bytes : ℕ) (s' : List ℕ) (l' : List Row)
        → comes (comes used (initialise frequency s l)).host (read index bytes s' l') ≡ untouched (comes used (initialise frequency s l)).host E.NoCard l'
    read-after-a-bad-card = read-of-none (comes used (initialise frequency s l)).host none-after-a-bad-card

    pub write-after-a-bad-card : (index : ℕ) (bytes s' : List ℕ) (l' : List Row)
        → comes (comes used (initialise frequency s l)).host (write index bytes s' l') ≡ untouched (comes used (initialise frequency s l)).host E.NoCard l'
    write-after-a-bad-card = write-of-none (comes used (initialise frequency s l)).host none-after-a-bad-card

-- an accepted initialisation was of allowed frequency
accepted-allowed : (host : Sdmmc) (frequency : ℕ) (s : List ℕ) (l : List Row) → (comes host (initialise frequency s l)).answer ≡ Answered.Accepted → allowed frequency ≡ true
unfolding comes initialised
accepted-allowed host frequency s l r = by (eqb frequency 0 || ltb 50_000_000 frequency) _ r
  where
    by : (b : Bool) (x : Came) → (cond b (untouched host E.BadClock l) x).answer ≡ Answered.Accepted → not b ≡ true
    by true x r = let z : ◌≡◌ {A = ℕ} 0 1 = cc in absurd (omega arith)
    by false x r = refl

-- two hosts of the same settings with different pasts cannot be told apart after an accepted initialisation on the same
-- script: whatever calls follow
pub not-told-apart : (set : Settings) → (made set).answer ≡ Answered.Accepted → (past other : List Call) (frequency : ℕ) (s : List ℕ) (l : List Row)
    → (comes (serve (made set).host past).host (initialise frequency s l)).answer ≡ Answered.Accepted
    → (cs : List Call)
    → serve (comes (serve (made set).host past).host (initialise frequency s l)).host cs
    ≡ serve (comes (serve (made set).host other).host (initialise frequency s l)).host cs
unfolding left_out
not-told-apart set ok past other frequency s l r cs =
    let one = (serve (made set).host past).host in
    let two = (serve (made set).host other).host in
    let new = comes (made set).host (initialise frequency s l) in
    let may = accepted-allowed one frequency s l r in
    let first = as_a_new_host set ok past frequency s l may in
    let second = as_a_new_host set ok other frequency s l may in
    let accepted : new.answer ≡ Answered.Accepted = ap (λ (x : Came). x.answer) (sym first) ∙ r in
    let counts : (h : Sdmmc) → (as_new h new).host ≡ new.host = λ h. rw accepted in
    ap (λ (h : Sdmmc). serve h cs)
    (ap (λ (x : Came). x.host) first ∙ counts one ∙ sym (ap (λ (x : Came). x.host) second ∙ counts two))
