-- What a guard leaves: a plan under it that is refused, or whose script has ended, has written the ten reset rows last, with
-- no word used for them.
use Prim.Native.Nat.{ℕ, ◌+◌, ◌≤◌}
use mathlib.Core.Bool.{Bool, true, false, cond}
use mathlib.Core.List.{List, [], ◌∷◌, ◌++◌}
use mathlib.Core.Path.{◌≡◌, refl, ap, sym, ◌∙◌}
use native.Mathlib.Omega.{arith}
use native.Mathlib.Decide.{dec_le}
use lib.Dec.{ltb}
use lib.ListN.{length, get_or, take, drop, set}
use borrow.Author.Tests.{le-ltb, lt-ltb}
use Rattle.tape.specs.declared.progress.Halt.TheVariants.{Refused, ScriptEnded, TraceFull}
use Rattle.tape.specs.declared.progress.Line.{Line}
use Rattle.tape.specs.Pace.{Pace}
use Rattle.tape.specs.Pace.{Going, Stopped}
use Rattle.tape.specs.declared.rows.Row.{Row}
use Rattle.tape.proofs.Laws.{run-handle}
use Rattle.tape.specs.Plan.{Nothing, Cause, failed, ended, Plan, give, refuse, read, write, look, hold, handle, ◌then◌, refusing, guard}
use Rattle.tape.proofs.Room.{is_full, free, full_exactly, laid-between, run_fits}
use Rattle.tape.specs.Rows.{ARG, CLKCR, CMD, DCTRL, DCTRL2, DLEN, DTIMER, ICR, MASK, POWER}
use Rattle.tape.specs.Run.{State, After, after, noted, halt_of, run, run_from, next_at}
use Rattle.tape.specs.Steps.{row, reset_controller}

abbrev row_to : ℕ → ℕ → Row
row_to register value = record { register = register; value = value }

-- 'Reset rows, in order: MASK, DCTRL2, DCTRL, CMD, POWER, CLKCR, ARG, DTIMER, DLEN, all 0, then ICR 0x00c007ff'
abbrev pub reset_rows : List Row
reset_rows =
    row_to MASK 0 ∷ row_to DCTRL2 0 ∷ row_to DCTRL 0 ∷ row_to CMD 0 ∷ row_to POWER 0 ∷ row_to CLKCR 0 ∷ row_to ARG 0 ∷ row_to DTIMER 0
    ∷ row_to DLEN 0 ∷ row_to ICR 0x00c0_07ff ∷ []

-- CLKCR reads 0 after them; clock, signalling and gate stand
abbrev pub clkcr_cleared : Line → Line
clkcr_cleared h = record { clkcr = 0; gated = h.gated; clock = h.clock; signalling = h.signalling }

-- the reset rows in a list of which n rows are written
abbrev pub reset_laid : List Row → ℕ → List Row
reset_laid l n = take n l ++ reset_rows ++ drop (n + 10) l

-- w' is w and then the ten reset rows, all of them; no word is used, and it goes or has stopped as before
pub record ThenReset (w w' : State) : Type 0 where
  pub room : w.progress.rows + 10 ≤ length w.list
  pub pace : w'.progress.pace ≡ w.progress.pace
  pub used : w'.progress.used ≡ w.progress.used
  pub rows : w'.progress.rows ≡ w.progress.rows + 10
  pub line : w'.progress.line ≡ clkcr_cleared w.progress.line
  pub list : w'.list ≡ reset_laid w.list w.progress.rows

-- what the reset rows come to: all ten, or no room for them
data Reset (s : List ℕ) (u n : ℕ) (h : Line) (l : List Row) : Type 0 where
  whole : n + 10 ≤ length l → run s (tt {0}) reset_controller u n h l ≡ after tt Going u (n + 10) (clkcr_cleared h) (reset_laid l n) → Reset s u n h l
  full : (run s (tt {0}) reset_controller u n h l).state.progress.pace ≡ Stopped TraceFull → Reset s u n h l

is-full : (q : Pace) → is_full q ≡ true → q ≡ Stopped TraceFull
is-full Going e = let z : ◌≡◌ {A = ℕ} 0 1 = cc in absurd (omega arith)
is-full (Stopped (Refused x)) e = let z : ◌≡◌ {A = ℕ} 0 1 = cc in absurd (omega arith)
is-full (Stopped ScriptEnded) e = let z : ◌≡◌ {A = ℕ} 0 1 = cc in absurd (omega arith)
is-full (Stopped TraceFull) e = refl

reset : (s : List ℕ) (u n : ℕ) (h : Line) (l : List Row) → Reset s u n h l
unfolding reset_controller row handle run free noted
reset s u n h l = by (dec_le (n + 10) (length l)) (dec_le n (length l))
  where
    by : Dec (n + 10 ≤ length l) → Dec (n ≤ length l) → Reset s u n h l
    by (yes fits) before =
        let x = free s (tt {0}) reset_controller u h in
        whole fits
        (run_fits s (tt {0}) reset_controller u n h l fits
        ∙ ap (λ (k : List Row). after (tt {0}) Going u (n + 10) (clkcr_cleared h) k) (laid-between l n x.rows fits))
    by (no over) (yes before) =
        full (is-full _ (full_exactly s (tt {0}) reset_controller u n h l before ∙ lt-ltb (length l) (n + 10) (omega arith)))
    by (no over) (no before) = full (rw (le-ltb n (length l) (omega arith)))

-- a cause is not that it goes on, nor want of room; and two that stop a call alike are one
not_going : (e : Cause) → Going ≡ Stopped (halt_of e) → ⊥
not_going (failed x) r = let z : ◌≡◌ {A = ℕ} 0 1 = cc in omega arith
not_going ended r = let z : ◌≡◌ {A = ℕ} 0 1 = cc in omega arith

not_full : (e : Cause) → Stopped TraceFull ≡ Stopped (halt_of e) → ⊥
not_full (failed x) r = let z : ◌≡◌ {A = ℕ} 0 1 = cc in omega arith
not_full ended r = let z : ◌≡◌ {A = ℕ} 0 1 = cc in omega arith

pub one-cause : (x e : Cause) → Stopped (halt_of x) ≡ Stopped (halt_of e) → x ≡ e
one-cause (failed x) (failed e) r = let same : x ≡ e = cc in ap failed same
one-cause (failed x) ended r = let z : ◌≡◌ {A = ℕ} 0 1 = cc in absurd (omega arith)
one-cause ended (failed e) r = let z : ◌≡◌ {A = ℕ} 0 1 = cc in absurd (omega arith)
one-cause ended ended r = refl

-- a plan was refused for e at w, and at w' the reset rows have followed
pub record Guarded (e : Cause) (w w' : State) : Type 0 where
  pub refused : w.progress.pace ≡ Stopped (halt_of e)
  pub reset : ThenReset w w'

module _ (s : List ℕ) {A : Type 0} (d : A) where
  refusing-reset : (x e : Cause) (w : State) → w.progress.pace ≡ Stopped (halt_of x)
      → (run_from s d (refusing reset_controller x) w).state.progress.pace ≡ Stopped (halt_of e)
      → Guarded e w (run_from s d (refusing reset_controller x) w).state
  unfolding run next_at
  refusing-reset x e w g r = rw law (by (reset s u n w.progress.line w.list) (rw law at r))
    where
      u : ℕ
      u = w.progress.used

      n : ℕ
      n = w.progress.rows

      on : After Nothing → After A
      on y = next_at s d (λ (_ : Nothing). refuse x) refuse tt y.state.progress.pace y.state

      law : run_from s d (refusing reset_controller x) w ≡ on (run_from s (tt {0}) reset_controller w)
      law = run-handle s (tt {0}) d (λ _. refuse x) refuse reset_controller u n w.progress.line w.list

      all : (y : After Nothing) → n + 10 ≤ length w.list → y ≡ after tt Going u (n + 10) (clkcr_cleared w.progress.line) (reset_laid w.list n)
          → (on y).state.progress.pace ≡ Stopped (halt_of e) → Guarded e w (on y).state
      all y fits same r =
          let r' = rw same at r in
          rw same
          (record {
            refused = g ∙ r';
            reset = record { room = fits; pace = sym g; used = refl; rows = refl; line = refl; list = refl };
          })

      short : (y : After Nothing) → y.state.progress.pace ≡ Stopped TraceFull
          → (on y).state.progress.pace ≡ Stopped (halt_of e) → Guarded e w (on y).state
      short y f r = let r' = rw f at r in absurd (not_full e r')

      by : Reset s u n w.progress.line w.list → (on (run_from s (tt {0}) reset_controller w)).state.progress.pace ≡ Stopped (halt_of e)
          → Guarded e w (on (run_from s (tt {0}) reset_controller w)).state
      by (whole fits same) r = all (run_from s (tt {0}) reset_controller w) fits same r
      by (full f) r = short (run_from s (tt {0}) reset_controller w) f r

  -- THE LAW of the guard: where a guarded plan is refused, the plan was, for the same cause, and the reset rows followed
  pub guard-refused : (p : Plan A) (u n : ℕ) (h : Line) (l : List Row) (e : Cause)
      → (run s d (guard reset_controller p) u n h l).state.progress.pace ≡ Stopped (halt_of e)
      → Guarded e (run s d p u n h l).state (run s d (guard reset_controller p) u n h l).state
  unfolding run next_at
  guard-refused p u n h l e r = rw law (by y.state.progress.pace refl (rw law at r))
    where
      y : After A
      y = run s d p u n h l

      law : run s d (guard reset_controller p) u n h l ≡ next_at s d give (refusing reset_controller) y.value y.state.progress.pace y.state
      law = run-handle s d d give (refusing reset_controller) p u n h l

      by : (q : Pace) → y.state.progress.pace ≡ q
          → (next_at s d give (refusing reset_controller) y.value q y.state).state.progress.pace ≡ Stopped (halt_of e)
          → Guarded e y.state (next_at s d give (refusing reset_controller) y.value q y.state).state
      by Going g r = absurd (not_going e r)
      by (Stopped (Refused x)) g r = refusing-reset (failed x) e y.state g r
      by (Stopped ScriptEnded) g r = refusing-reset ended e y.state g r
      by (Stopped TraceFull) g r = absurd (not_full e r)

-- A plan inside another, reached by joins alone: q is begun at w' on the way of p from w, and a refusal of q is one of p.
pub data Inside (s : List ℕ) {B : Type 0} (d' : B) (q : Plan B) (w' : State) : (A : Type 0) → Plan A → State → Type 1 where
  here : Inside s d' q w' B q w'
  first : {A C : Type 0} (d : A) (p : Plan A) (f : A → Plan C) (w : State) → Inside s d' q w' A p w → Inside s d' q w' C (p then f) w
  later : {A C : Type 0} (d : A) (p : Plan A) (f : A → Plan C) (w : State) → (run_from s d p w).state.progress.pace ≡ Going
      → Inside s d' q w' C (f (run_from s d p w).value) (run_from s d p w).state → Inside s d' q w' C (p then f) w

same_by : {X Y Z : Type 0} (f : X → Z) (g : Y → Z) (b : Bool) (x x' : X) (y y' : Y) → f x ≡ g y → f x' ≡ g y' → f (cond b x x') ≡ g (cond b y y')
same_by f g true x x' y y' e e' = e
same_by f g false x x' y y' e e' = e'

-- what a plan gives where it stops is no part of where it stops
same-state : (s : List ℕ) {A : Type 0} (d d' : A) (p : Plan A) (u n : ℕ) (h : Line) (l : List Row) → (run s d p u n h l).state ≡ (run s d' p u n h l).state
unfolding run
same-state s d d' (give a) u n h l = refl
same-state s d d' (refuse c) u n h l = refl
same-state s {A} d d' (read r k z) u n h l =
    same_by {X = After A} {Y = After A} (λ x. x.state) (λ x. x.state) (ltb u (length s)) _ _ _ _ (same-state s d d' (k (get_or s u 0)) (u + 1) n h l)
    (same-state s d d' z u n h l)
same-state s {A} d d' (write r p) u n h l =
    same_by {X = After A} {Y = After A} (λ x. x.state) (λ x. x.state) (ltb n (length l)) _ _ _ _ (same-state s d d' p u (n + 1) (noted r h) (set l n r)) refl
same-state s d d' (look k) u n h l = same-state s d d' (k h) u n h l
same-state s d d' (hold h' p) u n h l = same-state s d d' p u n h' l

module _ (s : List ℕ) {B : Type 0} (d' : B) (q : Plan B) (w' : State) (x : Cause) (r : (run_from s d' q w').state.progress.pace ≡ Stopped (halt_of x)) where
  passed : {A C : Type 0} (d : C) (f : A → Plan C) (v : A) (w : State) → w.progress.pace ≡ Stopped (halt_of x)
      → (next_at s d f refuse v w.progress.pace w).state ≡ w
  unfolding next_at run
  passed {A} d f v w g = by x g
    where
      by : (x : Cause) → w.progress.pace ≡ Stopped (halt_of x) → (next_at s d f refuse v w.progress.pace w).state ≡ w
      by (failed e) g = rw g (rw (← g))
      by ended g = rw g (rw (← g))

  went : {A C : Type 0} (d : C) (f : A → Plan C) (v : A) (w : State) → w.progress.pace ≡ Going
      → (next_at s d f refuse v w.progress.pace w).state ≡ (run_from s d (f v) w).state
  unfolding next_at
  went d f v w g = rw g

  -- a refusal passes every join by
  pub inside-refused : (A : Type 0) (p : Plan A) (w : State) (d : A) → Inside s d' q w' A p w → (run_from s d p w).state ≡ (run_from s d' q w').state
  unfolding next_at
  inside-refused A p w d here = same-state s d d' q w'.progress.used w'.progress.rows w'.progress.line w'.list
  inside-refused A p w d (first d₁ p₁ f w₁ i) =
      let y = run_from s d₁ p₁ w₁ in
      let e = inside-refused _ p₁ w₁ d₁ i in
      ap (λ (z : After A). z.state) (run-handle s d₁ d f refuse p₁ w₁.progress.used w₁.progress.rows w₁.progress.line w₁.list)
      ∙ passed d f y.value y.state (ap (λ (z : State). z.progress.pace) e ∙ r)
      ∙ e
  inside-refused A p w d (later d₁ p₁ f w₁ g i) =
      let y = run_from s d₁ p₁ w₁ in
      ap (λ (z : After A). z.state) (run-handle s d₁ d f refuse p₁ w₁.progress.used w₁.progress.rows w₁.progress.line w₁.list)
      ∙ went d f y.value y.state g
      ∙ inside-refused _ (f y.value) y.state d i
