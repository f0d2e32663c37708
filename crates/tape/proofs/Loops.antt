-- The laws of a loop: at most so many turns of a body, until one is enough.
use Prim.Native.Nat.{ℕ, suc, ◌+◌, ◌-◌, ◌<◌, ◌≤◌}
use mathlib.Core.Path.{◌≡◌, refl}
use mathlib.Core.Bool.{Bool, true, false, cond}
use mathlib.Core.List.{List}
use native.Mathlib.Omega.{arith}
use native.Mathlib.Nat.{le_trans, sub-zero}
use Rattle.types.specs.declared.error.Error.TheVariants.{SoftwareTimeout}
use Rattle.tape.specs.Pace.{Pace}
use Rattle.tape.specs.Pace.{Going, Stopped}
use Rattle.tape.specs.Plan.{Plan, give, fail, until}
use Rattle.tape.specs.Run.{State, kept_at, over_at, run, Gave}
use Rattle.tape.proofs.Laws.{from-going, from-stopped, grows, kept, bind}

-- After i turns w has become w', and what is left to do is what was to do: whatever ends the turns that are left ends
-- them all.
pub record Turned (s : List ℕ) (A : Type 0) (d : A) (body : Plan A) (enough : A → Bool) (limit i : ℕ) (w w' : State) : Type 0 where
  pub grown : w.progress.used ≤ w'.progress.used
  pub whole : (v : A) (w'' : State) → Gave s A d (until (limit - i) enough body) w' v w'' → Gave s A d (until limit enough body) w v w''

pub no_turn : {s : List ℕ} {A : Type 0} {d : A} {body : Plan A} {enough : A → Bool} {limit : ℕ} {w : State}
    → Turned s A d body enough limit 0 w w
no_turn = record { grown = omega arith; whole = λ v w'' e. rw sub-zero at e }

module _ {s : List ℕ} {A : Type 0} {d : A} {body : Plan A} {enough : A → Bool} {limit i : ℕ} {w w' : State} (t : Turned s A d body enough limit i w w') where
  -- no turn is left
  pub out-of-turns : {w'' : State} {v : A} → limit ≤ i → Gave s A d (fail SoftwareTimeout) w' v w''
      → Gave s A d (until limit enough body) w v w''
  unfolding until
  out-of-turns {w''} {v} h e = t.whole v w'' (rw none (out e))
    where
      none : limit - i ≡ 0
      none = omega arith

      out : Gave s A d (fail SoftwareTimeout) w' v w'' → Gave s A d (until 0 enough body) w' v w''
      out e = e

  module _ {v : A} {w'' : State} (more : i < limit) (e : Gave s A d body w' v w'') where
    one_more : limit - i ≡ suc (limit - (i + 1))
    one_more = omega arith

    turn : {v' : A} {w''' : State} → Gave s A d (cond (enough v) (give v) (until (limit - (i + 1)) enough body)) w'' v' w'''
        → Gave s A d (until (suc (limit - (i + 1))) enough body) w' v' w'''
    unfolding until
    turn g = bind (λ x. cond (enough x) (give x) (until (limit - (i + 1)) enough body)) e g

    -- this turn was enough, or the call stopped in it
    pub last_turn : over_at w''.progress.pace (enough v) ≡ true → Gave s A d (until limit enough body) w v w''
    unfolding over_at kept_at run
    last_turn o = t.whole v w'' (rw one_more (turn (by w''.progress.pace refl)))
      where
        by : (q : Pace) → w''.progress.pace ≡ q → Gave s A d (cond (enough v) (give v) (until (limit - (i + 1)) enough body)) w'' v w''
        by Going g = rw (rw g at o) (from-going g (rw (← g)))
        by (Stopped x) g = rw (rw g at (kept e)) (from-stopped g)

    -- it was not
    pub next-turn : over_at w''.progress.pace (enough v) ≡ false → Turned s A d body enough limit (i + 1) w w''
    unfolding over_at
    next-turn o =
        record {
          grown = le_trans t.grown (grows e);
          whole = λ v' w''' g. t.whole v' w''' (rw one_more (turn (rw (by w''.progress.pace o) g)));
        }
      where
        by : (q : Pace) → over_at q (enough v) ≡ false → enough v ≡ false
        by Going o = o
        by (Stopped x) o = cc
