-- The laws by which a step's proof is put together from the contracts of the steps that it calls.
use Prim.Native.Nat.{ℕ, ◌+◌, ◌≤◌}
use mathlib.Core.Path.{◌≡◌, refl, ap, sym, ◌∙◌}
use mathlib.Core.Bool.{Bool, true, false, cond}
use mathlib.Core.List.{List, []}
use native.Mathlib.Omega.{arith}
use native.Mathlib.Nat.{le_trans}
use lib.ListN.{length, get_or, set}
use lib.Dec.{ltb}
use borrow.Author.Tests.{le-ltb}
use Rattle.tape.specs.declared.progress.Halt.{Halt}
use Rattle.tape.specs.declared.progress.Halt.TheVariants.{Refused, ScriptEnded, TraceFull}
use Rattle.tape.specs.declared.progress.Line.{Line}
use Rattle.tape.specs.Pace.{Pace}
use Rattle.tape.specs.Pace.{Going, Stopped}
use Rattle.tape.specs.declared.rows.Row.{Row}
use Rattle.tape.specs.Plan.{Nothing, Cause, failed, ended, Plan, give, refuse, read, write, look, hold, handle, ◌then◌}
use Rattle.tape.specs.Plan.{refusing, guard}
use Rattle.tape.specs.Run.{State, at, After, stopped, noted, halt_of, kept_at, over_at, run, run_from, does_at, does, next_at, next}
use Rattle.tape.specs.Run.{Gave, Did, Settled}

-- a test before a function is a test inside it
by_test : {X Y : Type 0} (g : X → Y) (b : Bool) {x y : X} {z z' : Y} → z ≡ g x → z' ≡ g y → cond b z z' ≡ g (cond b x y)
by_test g true e e' = e
by_test g false e e' = e'

pub by_cases : {X : Type 0} (P : X → Type 0) (b : Bool) (x y : X) → P x → P y → P (cond b x y)
by_cases P true x y e e' = e
by_cases P false x y e e' = e'

module _ (s : List ℕ) where
  -- THE LAW of joined plans
  pub run-handle : {A B : Type 0} (d : A) (d' : B) (f : A → Plan B) (g : Cause → Plan B) (p : Plan A) (u n : ℕ) (h : Line) (l : List Row)
      → run s d' (handle f g p) u n h l ≡ next s d' f g (run s d p u n h l).value (run s d p u n h l).state
  unfolding run handle next_at
  run-handle d d' f g (give a) u n h l = refl
  run-handle d d' f g (refuse (failed e)) u n h l = refl
  run-handle d d' f g (refuse ended) u n h l = refl
  run-handle {A} {B} d d' f g (read r k z) u n h l =
      by_test (λ (x : After A). next s d' f g x.value x.state) (ltb u (length s))
      (run-handle d d' f g (k (get_or s u 0)) (u + 1) n h l) (run-handle d d' f g z u n h l)
  run-handle {A} {B} d d' f g (write r p) u n h l =
      by_test (λ (x : After A). next s d' f g x.value x.state) (ltb n (length l))
      (run-handle d d' f g p u (n + 1) (noted r h) (set l n r)) refl
  run-handle d d' f g (look k) u n h l = run-handle d d' f g (k h) u n h l
  run-handle d d' f g (hold h' p) u n h l = run-handle d d' f g p u n h' l

  abbrev Kept : {A : Type 0} → A → After A → Type 0
  Kept d x = x.value ≡ kept_at d x.value x.state.progress.pace

  run-kept : {A : Type 0} (d : A) (p : Plan A) (u n : ℕ) (h : Line) (l : List Row) → Kept d (run s d p u n h l)
  unfolding run kept_at
  run-kept d (give a) u n h l = refl
  run-kept d (refuse c) u n h l = refl
  run-kept d (read r k z) u n h l = by_cases (Kept d) (ltb u (length s)) _ _ (run-kept d (k (get_or s u 0)) (u + 1) n h l) (run-kept d z u n h l)
  run-kept d (write r p) u n h l =
      by_cases (Kept d) (ltb n (length l)) _ _ (run-kept d p u (n + 1) (noted r h) (set l n r)) refl
  run-kept d (look k) u n h l = run-kept d (k h) u n h l
  run-kept d (hold h' p) u n h l = run-kept d p u n h' l

  abbrev Grown : {A : Type 0} → ℕ → After A → Type 0
  Grown u x = u ≤ x.state.progress.used

  run-grows : {A : Type 0} (d : A) (p : Plan A) (u n : ℕ) (h : Line) (l : List Row) → Grown u (run s d p u n h l)
  unfolding run
  run-grows d (give a) u n h l = omega arith
  run-grows d (refuse c) u n h l = omega arith
  run-grows d (read r k z) u n h l =
      by_cases (Grown u) (ltb u (length s)) _ _ (le_trans {m = u + 1} (omega arith) (run-grows d (k (get_or s u 0)) (u + 1) n h l)) (run-grows d z u n h l)
  run-grows d (write r p) u n h l =
      by_cases (Grown u) (ltb n (length l)) _ _ (run-grows d p u (n + 1) (noted r h) (set l n r)) (omega arith)
  run-grows d (look k) u n h l = run-grows d (k h) u n h l
  run-grows d (hold h' p) u n h l = run-grows d p u n h' l

-- where no word is left none is taken
pub run_out : (s : List ℕ) {A : Type 0} (d : A) (p : Plan A) (u n : ℕ) (h : Line) (l : List Row) → length s ≤ u → (run s d p u n h l).state.progress.used ≡ u
unfolding run
run_out s d (give a) u n h l e = refl
run_out s d (refuse x) u n h l e = refl
run_out s d (read r k z) u n h l e = rw (le-ltb u (length s) e) (run_out s d z u n h l e)
run_out s {A} d (write r p) u n h l e =
    by_cases (λ (x : After A). x.state.progress.used ≡ u) (ltb n (length l)) _ _ (run_out s d p u (n + 1) (noted r h) (set l n r) e) refl
run_out s d (look k) u n h l e = run_out s d (k h) u n h l e
run_out s d (hold h' p) u n h l e = run_out s d p u n h' l e

-- two results that one contract allows are the same
pub unique : {s : List ℕ} {A : Type 0} {d : A} {p : Plan A} {w : State} {v v₁ : A} {w' w₁ : State}
    → Gave s A d p w v w' → Gave s A d p w v₁ w₁ → (v ≡ v₁) × (w' ≡ w₁)
unique {A = A} e g =
    let same = e.same ∙ sym g.same in
    (ap (λ (x : After A). x.value) same, ap (λ (x : After A). x.state) same)

-- A step's own laws.

-- from a call that is going
pub from-going : {s : List ℕ} {A : Type 0} {d : A} {p : Plan A} {w : State} {v : A} {w' : State}
    → w.progress.pace ≡ Going
    → record { value = v; state = w' } ≡ run_from s d p w
    → Gave s A d p w v w'
unfolding does_at
from-going g e = record { same = rw g e }

-- from a call that has stopped: it is handed back
pub from-stopped : {s : List ℕ} {A : Type 0} {d : A} {p : Plan A} {w : State} {x : Halt}
    → w.progress.pace ≡ Stopped x → Gave s A d p w d w
unfolding does_at
from-stopped g = record { same = rw g }

-- the plan that does nothing, and gives what is given where a call has stopped
pub stay : {s : List ℕ} {A : Type 0} {d : A} {w : State} → Gave s A d (give d) w d w
unfolding does_at run
stay {s} {A} {d} {w} = record { same = by w.progress.pace refl }
  where
    by : (q : Pace) → w.progress.pace ≡ q → record { value = d; state = w } ≡ does s d (give d) w
    by Going g = rw g
    by (Stopped x) g = rw g

-- a refusal does the same whatever would have been given
pub refusal : {s : List ℕ} {A : Type 0} {d : A} {c : Cause} {w w' : State} → Did s (refuse c) w w' → Gave s A d (refuse c) w d w'
unfolding does_at run
refusal {s} {A} {d} {c} {w} {w'} e =
    record { same = ap (λ (y : After Nothing). record { value = d; state = y.state }) e.same ∙ by w.progress.pace }
  where
    by : (q : Pace) → ◌≡◌ {A = After A}
        (record { value = d; state = (does_at s (tt {0}) q (refuse c) w).state })
        (does_at s d q (refuse c) w)
    by Going = refl
    by (Stopped y) = refl

-- words are only ever taken
pub grows : {s : List ℕ} {A : Type 0} {d : A} {p : Plan A} {w : State} {v : A} {w' : State}
    → Gave s A d p w v w' → w.progress.used ≤ w'.progress.used
unfolding does_at
grows {s} {A} {d} {p} {w} {v} {w'} e = rw (ap (λ (x : After A). x.state.progress.used) e.same) (by w.progress.pace)
  where
    by : (q : Pace) → w.progress.used ≤ (does_at s d q p w).state.progress.used
    by Going = run-grows s d p w.progress.used w.progress.rows w.progress.line w.list
    by (Stopped x) = omega arith

-- a step that reads no word says what it does on every script: on the one with no word it takes none
pub dry : {A : Type 0} {d : A} {p : Plan A} {w : State} {v : A} {w' : State} → Gave [] A d p w v w' → w'.progress.used ≡ w.progress.used
unfolding does_at
dry {A} {d} {p} {w} {v} {w'} e = ap (λ (x : After A). x.state.progress.used) e.same ∙ by w.progress.pace
  where
    by : (q : Pace) → (does_at [] d q p w).state.progress.used ≡ w.progress.used
    by Going = run_out [] d p w.progress.used w.progress.rows w.progress.line w.list (omega arith)
    by (Stopped x) = refl

pub not-over : (a : Pace) (b : Bool) → over_at a b ≡ false → a ≡ Going
unfolding over_at
not-over Going b e = refl
not-over (Stopped x) b e = cc

-- what it gives where it stopped
pub kept : {s : List ℕ} {A : Type 0} {d : A} {p : Plan A} {w : State} {v : A} {w' : State}
    → Gave s A d p w v w' → v ≡ kept_at d v w'.progress.pace
unfolding does_at kept_at
kept {s} {A} {d} {p} {w} {v} {w'} e = rw (← e.same) at (by w.progress.pace)
  where
    by : (q : Pace) → Kept s d (does_at s d q p w)
    by Going = run-kept s d p w.progress.used w.progress.rows w.progress.line w.list
    by (Stopped x) = refl

-- Two steps.

does_then : (s : List ℕ) {A B : Type 0} (d : A) (d' : B) (p : Plan A) (f : A → Plan B) (w : State)
    → does s d' (p then f) w ≡ does s d' (f (does s d p w).value) (does s d p w).state
unfolding does_at next_at run
does_then s {A} {B} d d' p f w = by w.progress.pace
  where
    on : (x : After A) (q : Pace)
        → next_at s d' f refuse x.value q x.state
        ≡ does_at s d' q (f x.value) x.state
    on x Going = refl
    on x (Stopped (Refused e)) = refl
    on x (Stopped ScriptEnded) = refl
    on x (Stopped TraceFull) = refl

    by : (q : Pace)
        → does_at s d' q (p then f) w
        ≡ does s d' (f (does_at s d q p w).value)
        (does_at s d q p w).state
    by Going =
        let x = run_from s d p w in
        run-handle s d d' f refuse p w.progress.used w.progress.rows w.progress.line w.list
        ∙ on x x.state.progress.pace
    by (Stopped x) = refl

-- a step that gives a value, and then the next, which goes by it
pub bind : {s : List ℕ} {A B : Type 0} {d : A} {d' : B} {p : Plan A} (f : A → Plan B) {w w' w'' : State} {v : A} {v' : B}
    → Gave s A d p w v w' → Gave s B d' (f v) w' v' w'' → Gave s B d' (p then f) w v' w''
bind {s} {A} {B} {d} {d'} {p} f {w} {w'} {w''} {v} {v'} e g =
    record { same = g.same ∙ ap (λ (x : After A). does s d' (f x.value) x.state) e.same ∙ sym (does_then s d d' p f w) }

-- a step that gives nothing, and then the next
pub seq : {s : List ℕ} {B : Type 0} {d : B} {p : Plan Nothing} {q : Plan B} {w w' w'' : State} {v : B}
    → Did s p w w' → Gave s B d q w' v w'' → Gave s B d (p then λ _. q) w v w''
seq {s} {B} {d} {p} {q} e g = bind (λ _. q) e g

-- a step whose value is not asked for
pub forget : {s : List ℕ} {A : Type 0} {d : A} {p : Plan A} {w w' : State} {v : A}
    → Gave s A d p w v w' → Did s (p then λ _. give tt) w w'
forget e = bind (λ _. give tt) e stay

-- a step that goes by a test
pub on_true : {s : List ℕ} {A : Type 0} {d : A} {p : Plan A} (q : Plan A) {b : Bool} {w w' : State} {v : A}
    → b ≡ true → Gave s A d p w v w' → Gave s A d (cond b p q) w v w'
on_true q t e = rw t e

pub on_false : {s : List ℕ} {A : Type 0} {d : A} (p : Plan A) {q : Plan A} {b : Bool} {w w' : State} {v : A}
    → b ≡ false → Gave s A d q w v w' → Gave s A d (cond b p q) w v w'
on_false p t e = rw t e

-- a step that goes by what the host holds
pub looking : {s : List ℕ} {A : Type 0} {d : A} (k : Line → Plan A) {w w' : State} {v : A}
    → Gave s A d (k w.progress.line) w v w' → Gave s A d (look k) w v w'
unfolding does_at run
looking {s} {A} {d} k {w} {w'} {v} e = record { same = e.same ∙ by w.progress.pace }
  where
    by : (q : Pace) → does_at s d q (k w.progress.line) w ≡ does_at s d q (look k) w
    by Going = refl
    by (Stopped x) = refl

-- A step, and what becomes of its value or of its refusal: guards, gates, rescues.

-- the same place, going on
abbrev pub resumed : State → State
resumed w = at (record { pace = Going; used = w.progress.used; rows = w.progress.rows; line = w.progress.line }) w.list

pub settled-value : {s : List ℕ} {A B : Type 0} {d : B} {f : A → Plan B} {g : Cause → Plan B} {v : A} {w : State} {v' : B} {w' : State}
    → w.progress.pace ≡ Going → Gave s B d (f v) w v' w' → Settled s A B d f g v w v' w'
unfolding does_at next_at
settled-value {s} {A} {B} {d} {f} {g} {v} {w} {v'} {w'} q e = record { same = rw q (rw q at e.same) }

pub settled-refusal : {s : List ℕ} {A B : Type 0} {d : B} {f : A → Plan B} {g : Cause → Plan B} {v : A} {w : State} {v' : B} {w' : State} (c : Cause)
    → w.progress.pace ≡ Stopped (halt_of c) → Gave s B d (g c) (resumed w) v' w' → Settled s A B d f g v w v' w'
unfolding does_at next_at
settled-refusal (failed x) q e = record { same = rw q e.same }
settled-refusal ended q e = record { same = rw q e.same }

pub settled-full : {s : List ℕ} {A B : Type 0} {d : B} {f : A → Plan B} {g : Cause → Plan B} {v : A} {w : State}
    → w.progress.pace ≡ Stopped TraceFull → Settled s A B d f g v w d w
unfolding next_at
settled-full q = record { same = rw q }

-- a step of a call that was going, and what became of it
pub handled : {s : List ℕ} {A B : Type 0} {d : A} {d' : B} {p : Plan A} (f : A → Plan B) (g : Cause → Plan B) {w w' w'' : State} {v : A} {v' : B}
    → w.progress.pace ≡ Going → Gave s A d p w v w' → Settled s A B d' f g v w' v' w'' → Gave s B d' (handle f g p) w v' w''
unfolding does_at
handled {s} {A} {B} {d} {d'} {p} f g {w} {w'} {w''} {v} {v'} q e h =
    from-going q
    (h.same
    ∙ ap (λ (x : After A). next s d' f g x.value x.state) (rw q at e.same)
    ∙ sym (run-handle s d d' f g p w.progress.used w.progress.rows w.progress.line w.list))

-- rows and a refusal do the same whatever would have been given
refusing-any : (s : List ℕ) {A : Type 0} (d : A) (q : Plan Nothing) (c : Cause) (w : State)
    → run_from s d (refusing q c) w ≡ record { value = d; state = (run_from s (tt {0}) (refusing q c) w).state }
unfolding next_at run
refusing-any s {A} d q c w =
    let u = w.progress.used in
    let n = w.progress.rows in
    let h = w.progress.line in
    run-handle s (tt {0}) d (λ _. refuse c) refuse q u n h w.list
    ∙ by (run_from s (tt {0}) q w).state (run_from s (tt {0}) q w).state.progress.pace
    ∙ ap (λ (y : After Nothing). record { value = d; state = y.state })
    (sym (run-handle s (tt {0}) (tt {0}) (λ _. refuse c) refuse q u n h w.list))
  where
    by : (w : State) (p : Pace) → ◌≡◌ {A = After A}
        (next_at s d (λ (_ : Nothing). refuse c) refuse tt p w)
        (record { value = d; state = (next_at s (tt {0}) (λ (_ : Nothing). refuse c) refuse tt p w).state })
    by w Going = refl
    by w (Stopped (Refused e)) = refl
    by w (Stopped ScriptEnded) = refl
    by w (Stopped TraceFull) = refl

-- a step of a call that was going, and its guard, which is one and the same function whatever the step gives
pub guarded : {s : List ℕ} {A : Type 0} {d : A} {p : Plan A} (q : Plan Nothing) {w w' w'' : State} {v : A}
    → w.progress.pace ≡ Going → Gave s A d p w v w' → Settled s Nothing Nothing tt give (refusing q) tt w' tt w''
    → Gave s A d (guard q p) w v w''
unfolding next_at run kept_at
guarded {s} {A} {d} {p} q {w} {w'} {w''} {v} g e c =
    handled give (refusing q) g e
    (record { same = ap (λ (y : After Nothing). record { value = v; state = y.state }) c.same ∙ by w'.progress.pace (kept e) })
  where
    by : (r : Pace) → v ≡ kept_at d v r → ◌≡◌ {A = After A}
        (record { value = v; state = (next_at s (tt {0}) give (refusing q) tt r w').state })
        (next_at s d give (refusing q) v r w')
    by Going k = refl
    by (Stopped (Refused x)) k =
        sym (refusing-any s d q (failed x) w'
        ∙ ap (λ (y : A). record { value = y; state = (run_from s (tt {0}) (refusing q (failed x)) w').state }) (sym k))
    by (Stopped ScriptEnded) k =
        sym (refusing-any s d q ended w'
        ∙ ap (λ (y : A). record { value = y; state = (run_from s (tt {0}) (refusing q ended) w').state }) (sym k))
    by (Stopped TraceFull) k = ap (λ (y : A). stopped y TraceFull w') k
