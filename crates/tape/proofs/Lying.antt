-- Data words are lent on from where they lie in the script, and an answer without words tells no place: what further steps make
-- of that.
use Prim.Native.Nat.{ℕ}
use mathlib.Core.List.{List}
use mathlib.Core.Path.{◌≡◌, refl, ap}
use native.Mathlib.Omega.{arith}
use Rattle.std.specs.Borrow.{Bor}
use Rattle.std.specs.Prelude.{Result, Ok, Err, IfOk, IsErrAnd}
use Rattle.tape.specs.declared.progress.Halt.{Halt}
use Rattle.tape.specs.declared.progress.Halt.TheVariants.{Refused, ScriptEnded, TraceFull}
use Rattle.tape.specs.Pace.{Pace, Going, Stopped}
use Rattle.tape.specs.Plan.{Nothing, Cause, failed, ended, Plan, give, refusing}
use Rattle.tape.specs.Run.{State, After, kept_at, run, does_at, next_at, words_in, Gave, Settled, Lies}
use Rattle.tape.proofs.Laws.{from-going, resumed}
use Rattle.tape.proofs.Values.{gives-last, gives-refuse, given}

-- a call that is going after a step was going before it
pub was-going : {s : List ℕ} {A : Type 0} {d : A} {p : Plan A} {w : State} {v : A} {w' : State}
    → Gave s A d p w v w' → w'.progress.pace ≡ Going → w.progress.pace ≡ Going
unfolding does_at
was-going {s} {A} {d} {p} {w} {v} {w'} e g = by w.progress.pace refl
  where
    by : (q : Pace) → w.progress.pace ≡ q → q ≡ Going
    by Going f = refl
    by (Stopped x) f =
        let stays : w'.progress.pace ≡ Stopped x = ap (λ (y : After A). y.state.progress.pace) (rw f at e.same) in
        let z : ◌≡◌ {A = ℕ} 0 1 = cc in absurd (omega arith)

-- they lie where they lay: handed on by a step that gives no others
pub lies_still : {s : List ℕ} {a n : ℕ} {r r' : Result (List ℕ) Halt} → Lies s a n r → IfOk r' (λ words. r ≡ Ok words) → Lies s a n r'
lies_still {r' = Ok words} lies same = rw same at lies
lies_still {r' = Err x} lies same = record { there = tt; whole = tt }

-- an answer that `?` passes on has none
pub lies_passed : {s : List ℕ} {a n : ℕ} (r : Result (Bor (List ℕ)) Halt) (x : Halt) → IsErrAnd r (λ y. y ≡ x) → Lies s a n (words_in r)
lies_passed (Ok words) x t = absurd t
lies_passed (Err y) x t = record { there = tt; whole = tt }

-- a call that a guard has closed is going exactly where it was
pub guard-keeps : {s : List ℕ} (q : Plan Nothing) {w w' : State} (d v : ℕ)
    → Settled s Nothing Nothing tt give (refusing q) tt w tt w' → kept_at d v w.progress.pace ≡ kept_at d v w'.progress.pace
unfolding kept_at next_at run
guard-keeps {s} q {w} {w'} d v e = by w.progress.pace refl
  where
    pace_of : After Nothing → Pace
    pace_of y = y.state.progress.pace

    refused : (c : Cause) → Gave s Nothing tt (refusing q c) (resumed w) tt w' → (p : Pace) → w'.progress.pace ≡ p → d ≡ kept_at d v p
    refused c closes Going g = absurd (given {P = λ _. ⊥} (gives-last q (λ _. gives-refuse)) closes g)
    refused c closes (Stopped y) g = refl

    by : (p : Pace) → w.progress.pace ≡ p → kept_at d v p ≡ kept_at d v w'.progress.pace
    by Going f = rw (ap pace_of (rw f at e.same))
    by (Stopped TraceFull) f = rw (ap pace_of (rw f at e.same))
    by (Stopped (Refused x)) f = refused (failed x) (from-going refl (rw f at e.same)) w'.progress.pace refl
    by (Stopped ScriptEnded) f = refused ended (from-going refl (rw f at e.same)) w'.progress.pace refl
