-- How a call stops, and what a closing step hands on.
use Prim.Native.Nat.{ℕ}
use mathlib.Core.List.{List}
use mathlib.Core.Path.{◌≡◌, refl, ap, ◌∙◌, sym}
use Rattle.tape.specs.declared.progress.Halt.{Halt}
use Rattle.tape.specs.declared.progress.Halt.TheVariants.{Refused, ScriptEnded, TraceFull}
use Rattle.tape.specs.Pace.{Pace}
use Rattle.tape.specs.Pace.{Going, Stopped}
use Rattle.tape.specs.Pace.{Progress}
use Rattle.tape.specs.declared.rows.Row.{Row}
use Rattle.tape.specs.Plan.{Cause, failed, ended, refuse}
use Rattle.tape.specs.Run.{at, halt_of, stop_at, run, Did}
use Rattle.tape.proofs.Laws.{from-going, from-stopped}

-- one that had stopped stays so
pub stays : {p : Progress} {y : Halt} (x : Halt) → p.pace ≡ Stopped y
    → p ≡ record { pace = stop_at p.pace x; used = p.used; rows = p.rows; line = p.line }
unfolding stop_at
stays {p} x g =
    ap (λ (z : Pace). record { pace = z; used = p.used; rows = p.rows; line = p.line }) (g ∙ sym (ap (λ (z : Pace). stop_at z x) g))

-- a progress that stops so is what the refusal makes of it
pub stops : {s : List ℕ} {l : List Row} (c : Cause) {p r : Progress} {x : Halt} → x ≡ halt_of c
    → r ≡ record { pace = stop_at p.pace x; used = p.used; rows = p.rows; line = p.line }
    → Did s (refuse c) (at p l) (at r l)
unfolding run stop_at
stops {s} {l} c {p} {r} {x} h e = by p.pace refl
  where
    by : (q : Pace) → p.pace ≡ q → Did s (refuse c) (at p l) (at r l)
    by Going g = from-going g (rw (e, g, h))
    by (Stopped y) g = rw (e ∙ sym (stays x g)) (from-stopped g)

-- what stopped a call, if not want of room, is a cause
pub record Caused (x : Halt) : Type 0 where
  pub cause : Cause
  pub told : x ≡ halt_of cause

pub caused : (x : Halt) → (x ≡ TraceFull → ⊥) → Caused x
caused (Refused e) h = record { cause = failed e; told = refl }
caused ScriptEnded h = record { cause = ended; told = refl }
caused TraceFull h = absurd (h refl)
