-- Document 01's table of refusals, line 6, and what every call leaves as it was.
use Rattle.std.specs.Prelude.{Result, Ok, Err}
use Rattle.types.specs.declared.clock.Clock.{Clock}
use Prim.Native.Nat.{ℕ, ◌+◌, ◌-◌, ◌/◌, ◌≤◌, min}
use mathlib.Core.Bool.{false, ◌||◌}
use mathlib.Core.List.{List, []}
use mathlib.Core.Path.{◌≡◌, refl, ap, sym, subst, ◌∙◌}
use native.Mathlib.Omega.{arith}
use lib.Dec.{eqb, ltb}
use lib.ListN.{length, drop}
use lib.Seq.{drop-drop}
use Rattle.types.specs.declared.error.Answer.TheVariants as Answered
use Rattle.types.specs.declared.error.Error.{Error}
use Rattle.types.specs.declared.error.Error.TheVariants as E
use Rattle.types.specs.Leaf.{clock_of}
use Rattle.types.specs.Words.{bytes_of}
use Rattle.tape.specs.declared.progress.Halt.TheVariants.{Refused, ScriptEnded, TraceFull}
use Rattle.tape.specs.Pace.{Pace}
use Rattle.tape.specs.Pace.{Going, Stopped}
use Rattle.tape.specs.declared.rows.Row.{Row}
use Rattle.tape.specs.Layout.{rows_in}
use Rattle.tape.specs.Plan.{Nothing, Plan}
use Rattle.tape.specs.Run.{State, at, run, run_from}
use Rattle.tape.proofs.Laws.{by_cases, from-going}
use Rattle.tape.proofs.Room.{Kept, WordsKept, keeps, words-kept}
use Rattle.tape.proofs.Words.{within-script}
use Rattle.host.proofs.Ran.{begun}
use Rattle.bus.specs.Command.{app_command}
use Rattle.bus.specs.Ready.{wait_ready}
use Rattle.bus.specs.Transfer.{Buffer}
use Rattle.init.specs.Initialise.{source_of, limit_of, no_card}
use Rattle.init.specs.Initialise.{initialise}
use Rattle.host.specs.Calls.{Came, untouched, holding, dropped, kept, ends, fresh_line, init_from, initialised}
use Rattle.host.specs.Calls.{transferred, approached, served, blocks_next, blocks_plan, blocks_from, blocks_judged, sends, blocks_came}
use Rattle.host.specs.Calls.{status_next, status_plan, status_came, buffer_of, blocks_filled}
use Rattle.host.specs.declared.host.Sdmmc.{Sdmmc}

-- Line 6, as request P3 changes it: '22: rows so far, host as before' (21 is in lines 3 to 5), and what follows the table: 'The block buffer is written only when the whole
-- call is accepted. ... List words past those rows keep their contents.' Of every call, whatever its argument. (`Kept`, of
-- the tape: the list is as long as it was, the rows are no more than there is room for, and those past them stand.) The
-- settings are those that the host was made with, so that its clock of identification is set (`identification-clock`). No call
-- uses more words than its script has.
pub record Leaves (host : Sdmmc) (s : List ℕ) (l : List Row) (x : Came) : Type 0 where
  pub full : x.answer ≡ Answered.TraceFull → x.host ≡ host
  pub taken : (x.answer ≡ Answered.Accepted → ⊥) → x.taken ≡ []
  pub words : x.words ≤ length s
  pub rows : Kept 0 l x.rows x.list
  pub settings : x.host.settings ≡ host.settings

-- so of the words of the list that it was lent
pub words_left : {host : Sdmmc} {s ws ws' : List ℕ} {x : Came} → Leaves host s (rows_in ws) x → rows_in ws' ≡ x.list → WordsKept 0 ws x.rows ws'
words_left {ws = ws} {x = x} left e = words-kept (subst (Kept 0 (rows_in ws) x.rows) (sym e) left.rows)

untouched-leaves : (host : Sdmmc) (e : Error) (s : List ℕ) (l : List Row) → Leaves host s l (untouched host e l)
untouched-leaves host e s l =
    record {
      full = λ r. refl;
      taken = λ n. refl;
      words = omega arith;
      rows = record { more = omega arith; within = λ h. h; long = refl; before = refl; past = refl };
      settings = refl;
    }

ends-leaves : (host refused accepted : Sdmmc) (words s : List ℕ) (l : List Row) (q : Pace) (w : State) → refused.settings ≡ host.settings → accepted.settings ≡ host.settings
    → w.progress.used ≤ length s → Kept 0 l w.progress.rows w.list → Leaves host s l (ends host refused accepted words q w)
unfolding ends
ends-leaves host refused accepted words s l Going w sr sa u k =
    record {
      full = λ r. let z : ◌≡◌ {A = ℕ} 0 1 = cc in absurd (omega arith);
      taken = λ n. absurd (n refl);
      words = u;
      rows = k;
      settings = sa;
    }
ends-leaves host refused accepted words s l (Stopped (Refused x)) w sr sa u k =
    record {
      full = λ r. let z : ◌≡◌ {A = ℕ} 0 1 = cc in absurd (omega arith);
      taken = λ n. refl;
      words = u;
      rows = k;
      settings = sr;
    }
ends-leaves host refused accepted words s l (Stopped ScriptEnded) w sr sa u k =
    record {
      full = λ r. let z : ◌≡◌ {A = ℕ} 0 1 = cc in absurd (omega arith);
      taken = λ n. refl;
      words = u;
      rows = k;
      settings = sr;
    }
ends-leaves host refused accepted words s l (Stopped TraceFull) w sr sa u k =
    record { full = λ r. refl; taken = λ n. refl; words = u; rows = k; settings = refl }

-- a plan of a call that is going
going-within : (s : List ℕ) {A : Type 0} (d : A) (p : Plan A) (w : State) → w.progress.pace ≡ Going → w.progress.used ≤ length s
    → (run_from s d p w).state.progress.used ≤ length s
going-within s d p w g u = within-script (from-going {s = s} {d = d} {p = p} {w = w} {v = (run_from s d p w).value} {w' = (run_from s d p w).state} g refl) u

going-kept : (s : List ℕ) {A : Type 0} (d : A) (p : Plan A) (w : State) → w.progress.pace ≡ Going
    → Kept w.progress.rows w.list (run_from s d p w).state.progress.rows (run_from s d p w).state.list
going-kept s d p w g = keeps (from-going {s = s} {d = d} {p = p} {w = w} {v = (run_from s d p w).value} {w' = (run_from s d p w).state} g refl)

-- and then another
kept_on : {l : List Row} {n : ℕ} {l₁ : List Row} {n₂ : ℕ} {l₂ : List Row} → Kept 0 l n l₁ → Kept n l₁ n₂ l₂ → Kept 0 l n₂ l₂
kept_on {l} {n} {l₁} {n₂} {l₂} a b =
    let more : n + (n₂ - n) ≡ n₂ = omega (arith, b.more) in
    record {
      more = omega arith;
      within = λ h. rw a.long at (b.within (rw a.long (a.within h)));
      long = b.long ∙ a.long;
      before = refl;
      past =
          b.past
          ∙ rw more at (sym (drop-drop (n₂ - n) n l₁) ∙ ap (drop (n₂ - n)) a.past ∙ drop-drop (n₂ - n) n l);
    }

served-leaves : (host : Sdmmc) (plan : Plan Nothing) (transfer : Plan (List ℕ)) (next : State → List ℕ → Sdmmc) (s : List ℕ) (l : List Row)
    → ((w : State) (ws : List ℕ) → (next w ws).settings ≡ host.settings) → Leaves host s l (served host plan transfer next s l)
unfolding served approached transferred
served-leaves host plan transfer next s l same = by w.progress.pace refl
  where
    w : State
    w = (run s (tt {0}) plan 0 0 host.line l).state

    used : w.progress.used ≤ length s
    used = going-within s (tt {0}) plan (at (begun host.line) l) refl (omega arith)

    start : Kept 0 l w.progress.rows w.list
    start = going-kept s (tt {0}) plan (at (begun host.line) l) refl

    by : (q : Pace) → w.progress.pace ≡ q → Leaves host s l (approached host transfer next s q w)
    by Going g =
        let x = run_from s [] transfer w in
        ends-leaves host (dropped host x.state) (next x.state x.value) x.value s l x.state.progress.pace x.state refl (same x.state x.value)
        (going-within s [] transfer w g used) (kept_on start (going-kept s [] transfer w g))
    by (Stopped h) g = ends-leaves host (kept host w) host [] s l (Stopped h) w refl refl used start

pub initialise-leaves : (host : Sdmmc) (frequency : ℕ) (s : List ℕ) (l : List Row) → Leaves host s l (initialised host frequency s l)
unfolding initialised init_from
initialise-leaves host frequency s l =
    by_cases (Leaves host s l) (eqb frequency 0 || ltb 50_000_000 frequency) _ _ (untouched-leaves host E.BadClock s l)
    (by (clock_of (source_of host.settings) 400_000 false))
  where
    by : (a : Result Clock Error) → Leaves host s l (init_from host frequency a s l)
    by (Err e) = untouched-leaves host e s l
    by (Ok c) =
        let x = run s no_card (initialise host.settings c frequency) 0 0 (fresh_line c.frequency) l in
        ends-leaves host (dropped host x.state) (holding host x.state x.value) [] s l x.state.progress.pace x.state refl refl
        (going-within s no_card (initialise host.settings c frequency) (at (begun (fresh_line c.frequency)) l) refl (omega arith))
        (going-kept s no_card (initialise host.settings c frequency) (at (begun (fresh_line c.frequency)) l) refl)

pub blocks-leaves : (host : Sdmmc) (buffer : Buffer) (index bytes : ℕ) (s : List ℕ) (l : List Row) → Leaves host s l (blocks_came host buffer index bytes s l)
unfolding blocks_came blocks_from
blocks-leaves host buffer index bytes s l = by (blocks_judged host (sends buffer) index bytes)
  where
    by : (a : Result ℕ Error) → Leaves host s l (blocks_from host buffer (bytes / 512) a s l)
    by (Err e) = untouched-leaves host e s l
    by (Ok a) =
        served-leaves host (wait_ready (source_of host.settings) host.settings.config host.card.rca) (blocks_plan host buffer a (bytes / 512)) (blocks_next host) s l (λ w ws. refl)

pub status-leaves : (host : Sdmmc) (s : List ℕ) (l : List Row) → Leaves host s l (status_came host s l)
unfolding status_came
status-leaves host s l =
    by_cases (Leaves host s l) host.known _ _
    (served-leaves host (app_command (limit_of host.settings) host.card.rca) (status_plan host) (status_next host) s l (λ w ws. refl))
    (untouched-leaves host E.NoCard s l)

-- a call with no data words leaves the buffer as it was
pub buffer-stays : (x : Came) (buffer : List ℕ) → x.taken ≡ [] → buffer_of x buffer ≡ buffer
unfolding blocks_filled bytes_of
buffer-stays x buffer e = let none : min 0 (length buffer / 512) ≡ 0 = omega arith in rw (e, none)
