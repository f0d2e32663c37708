-- What holds of every value that a plan can give, and so of the value of a call that is accepted.
use Prim.Native.Nat.{ℕ, zero, suc, ◌+◌}
use mathlib.Core.Path.{◌≡◌, refl, ap}
use mathlib.Core.List.{List}
use lib.ListN.{length, get_or, set}
use native.Mathlib.Omega.{arith}
use lib.Dec.{ltb}
use Rattle.tape.specs.declared.progress.Halt.{Halt}
use Rattle.tape.specs.declared.progress.Line.{Line}
use Rattle.tape.specs.Pace.{Pace}
use Rattle.tape.specs.Pace.{Going, Stopped}
use Rattle.tape.specs.declared.rows.Row.{Row}
use Rattle.tape.specs.Plan.{Nothing, Cause, Plan, give, refuse, read, write, look, hold, handle, ◌then◌, guard}
use Rattle.tape.specs.Run.{State, After, noted, halt_of, run, does_at, Gave}
use Rattle.tape.specs.Steps.{data_from}
use Rattle.tape.proofs.Laws.{by_cases}

unfoldable pub gives : {A : Type 0} → (A → Type 0) → Plan A → Type 0
gives P (give a) = P a
gives P (refuse c) = Unit {0}
gives P (read r k z) = ((w : ℕ) → gives P (k w)) × gives P z
gives P (write r p) = gives P p
gives P (look k) = (h : Line) → gives P (k h)
gives P (hold h p) = gives P p

pub record Gives (A : Type 0) (P : A → Type 0) (p : Plan A) : Type 0 where
  pub each : gives P p

module _ {A B : Type 0} (Q : A → Type 0) (P : B → Type 0) (f : A → Plan B) (g : Cause → Plan B) (v : (a : A) → Q a → Gives B P (f a)) (e : (c : Cause) → Gives B P (g c)) where
  joined : (p : Plan A) → gives Q p → gives P (handle f g p)
  unfolding gives handle
  joined (give a) b = (v a b).each
  joined (refuse c) b = (e c).each
  joined (read r k z) b = (λ w. joined (k w) (b.0 w), joined z b.1)
  joined (write r p) b = joined p b
  joined (look k) b = λ h. joined (k h) (b h)
  joined (hold h p) b = joined p b

pub gives-handle : {A B : Type 0} {Q : A → Type 0} {P : B → Type 0} {p : Plan A} {f : A → Plan B} {g : Cause → Plan B}
    → Gives A Q p → ((a : A) → Q a → Gives B P (f a)) → ((c : Cause) → Gives B P (g c)) → Gives B P (handle f g p)
gives-handle {A} {B} {Q} {P} {p} {f} {g} b v e = record { each = joined Q P f g v e p b.each }

pub gives-refuse : {A : Type 0} {P : A → Type 0} {c : Cause} → Gives A P (refuse c)
unfolding gives
gives-refuse = record { each = tt }

pub gives-give : {A : Type 0} {P : A → Type 0} {a : A} → P a → Gives A P (give a)
unfolding gives
gives-give h = record { each = h }

pub gives_then : {A B : Type 0} {Q : A → Type 0} {P : B → Type 0} {p : Plan A} {f : A → Plan B}
    → Gives A Q p → ((a : A) → Q a → Gives B P (f a)) → Gives B P (p then f)
gives_then b v = gives-handle b v (λ c. gives-refuse)

anything : {A : Type 0} (p : Plan A) → gives (λ _. Unit {0}) p
unfolding gives
anything (give a) = tt
anything (refuse c) = tt
anything (read r k z) = (λ w. anything (k w), anything z)
anything (write r p) = anything p
anything (look k) = λ h. anything (k h)
anything (hold h p) = anything p

-- whatever came before
pub gives-last : {A B : Type 0} {P : B → Type 0} (p : Plan A) {f : A → Plan B} → ((a : A) → Gives B P (f a)) → Gives B P (p then f)
gives-last {A} {B} {P} p v = gives_then (record { each = anything p }) (λ a _. v a)

-- a guard's rows give nothing
pub gives-guard : {A : Type 0} {P : A → Type 0} {p : Plan A} (q : Plan Nothing) → Gives A P p → Gives A P (guard q p)
gives-guard q b = gives-handle b (λ a h. gives-give h) (λ c. gives-last q (λ _. gives-refuse))

abbrev GivenBy : {A : Type 0} → (A → Type 0) → After A → Type 0
GivenBy P x = x.state.progress.pace ≡ Going → P x.value

not-given : {X : Type 0} (h : Halt) → Stopped h ≡ Going → X
not-given h e = absurd (let z : ◌≡◌ {A = ℕ} 0 1 = cc in omega arith)

run-given : (s : List ℕ) {A : Type 0} (P : A → Type 0) (d : A) (p : Plan A) (u n : ℕ) (h : Line) (l : List Row) → gives P p → GivenBy P (run s d p u n h l)
unfolding gives run
run-given s P d (give a) u n h l b = λ _. b
run-given s P d (refuse c) u n h l b = not-given (halt_of c)
run-given s P d (read r k z) u n h l b = by_cases (GivenBy P) (ltb u (length s)) _ _ (run-given s P d (k (get_or s u 0)) (u + 1) n h l (b.0 (get_or s u 0))) (run-given s P d z u n h l b.1)
run-given s P d (write r p) u n h l b = by_cases (GivenBy P) (ltb n (length l)) _ _ (run-given s P d p u (n + 1) (noted r h) (set l n r) b) (not-given _)
run-given s P d (look k) u n h l b = run-given s P d (k h) u n h l (b h)
run-given s P d (hold h' p) u n h l b = run-given s P d p u n h' l b

pub run-gives : (s : List ℕ) {A : Type 0} {P : A → Type 0} (d : A) {p : Plan A} → Gives A P p → (u n : ℕ) (h : Line) (l : List Row) → GivenBy P (run s d p u n h l)
run-gives s {A} {P} d {p} b u n h l = run-given s P d p u n h l b.each

pub given : {s : List ℕ} {A : Type 0} {P : A → Type 0} {d : A} {p : Plan A} {w : State} {v : A} {w' : State}
    → Gives A P p → Gave s A d p w v w' → w'.progress.pace ≡ Going → P v
unfolding does_at
given {s} {A} {P} {d} {p} {w} {v} {w'} b e = rw (← e.same) at (by w.progress.pace)
  where
    by : (q : Pace) → GivenBy P (does_at s d q p w)
    by Going = run-given s P d p w.progress.used w.progress.rows w.progress.line w.list b.each
    by (Stopped x) = not-given x

-- so many data words are so many
pub gives_data : (k n : ℕ) → Gives (List ℕ) (λ ws. length ws ≡ n) (data_from k n)
unfolding data_from
gives_data k zero = gives-give refl
gives_data k (suc n) = gives-last _ (λ w. gives_then (gives_data (k + 1) n) (λ ws h. gives-give (ap suc h)))
