-- A plan that obeys, given endless room, has come to its script's end exactly where a reading found no word.
use Prim.Native.Nat.{ℕ, ◌+◌, ◌≤◌, ◌<◌}
use mathlib.Core.Bool.{true, false}
use mathlib.Core.List.{List}
use mathlib.Core.Path.{◌≡◌, refl}
use native.Mathlib.Omega.{arith}
use native.Mathlib.Decide.{dec_lt}
use lib.ListN.{length, get_or}
use borrow.Author.Tests.{le-ltb, lt-ltb}
use Rattle.tape.specs.declared.progress.Halt.TheVariants.{ScriptEnded}
use Rattle.tape.specs.declared.progress.Line.{Line}
use Rattle.tape.specs.Pace.{Stopped}
use Rattle.tape.specs.Plan.{failed, ended, Plan, give, refuse, read, write, look, hold}
use Rattle.tape.specs.Run.{noted}
use Rattle.tape.proofs.Room.{Free, free}
use Rattle.tape.proofs.Walk.{Rule, obeys}
use Rattle.tape.proofs.Words.{Reach, reach}

pub record EndsThere (A : Type 0) (c : Reach) (x : Free A) : Type 0 where
  pub here : c.short ≡ true → x.pace ≡ Stopped ScriptEnded
  pub only : x.pace ≡ Stopped ScriptEnded → c.short ≡ true

module _ (rule : Rule) (s : List ℕ) where
  -- where no word is left
  out-ends : {A : Type 0} (d : A) (p : Plan A) (u : ℕ) (h : Line) → length s ≤ u → obeys rule true p → rule.holds h
      → (free s d p u h).pace ≡ Stopped ScriptEnded
  unfolding obeys free
  out-ends d (give a) u h e b i = absurd b
  out-ends d (refuse (failed x)) u h e b i = absurd b
  out-ends d (refuse ended) u h e b i = refl
  out-ends d (read r k z) u h e b i = rw (le-ltb u (length s) e) (out-ends d z u h e b i)
  out-ends d (write r p) u h e b i = out-ends d p u (noted r h) e b.1 (rule.noted r h i)
  out-ends d (look k) u h e b i = out-ends d (k h) u h e (b h i) i
  out-ends d (hold h' p) u h e b i = out-ends d p u h' e b.1 b.0

  pub ends_there : {A : Type 0} (d : A) (p : Plan A) (u : ℕ) (h : Line) → obeys rule false p → rule.holds h
      → EndsThere A (reach s p u h) (free s d p u h)
  unfolding obeys free reach
  ends_there d (give a) u h b i = record { here = λ e. cc; only = λ e. cc }
  ends_there d (refuse (failed x)) u h b i = record { here = λ e. cc; only = λ e. cc }
  ends_there d (refuse ended) u h b i = record { here = λ e. refl; only = λ e. b }
  ends_there {A} d (read r k z) u h b i =
      by (dec_lt u (length s)) (ends_there d (k (get_or s u 0)) (u + 1) h (b.0 (get_or s u 0)) i) (λ e. out-ends d z u h e b.1 i)
    where
      by : Dec (u < length s) → EndsThere A (reach s (k (get_or s u 0)) (u + 1) h) (free s d (k (get_or s u 0)) (u + 1) h)
          → (length s ≤ u → (free s d z u h).pace ≡ Stopped ScriptEnded)
          → EndsThere A (reach s (read r k z) u h) (free s d (read r k z) u h)
      by (yes some) ih out = rw (lt-ltb u (length s) some) ih
      by (no none) ih out =
          rw (le-ltb u (length s) (omega arith)) (record { here = λ e. out (omega arith); only = λ e. refl })
  ends_there d (write r p) u h b i =
      let ih = ends_there d p u (noted r h) b.1 (rule.noted r h i) in
      record { here = ih.here; only = ih.only }
  ends_there d (look k) u h b i = ends_there d (k h) u h (b h i) i
  ends_there d (hold h' p) u h b i = ends_there d p u h' b.1 b.0
