-- The laws of a loop of steps: at most so many turns of one, until what it gives is enough.
use Prim.Native.Nat.{ℕ, ◌+◌, ◌<◌, ◌≤◌}
use mathlib.Core.Path.{◌≡◌, refl}
use mathlib.Core.Bool.{Bool, true, false}
use mathlib.Core.List.{List, []}
use Rattle.std.specs.Prelude.{Ok, Err}
use Rattle.types.specs.declared.error.Error.TheVariants.{SoftwareTimeout}
use Rattle.tape.specs.declared.progress.Halt.{Halt}
use Rattle.tape.specs.declared.progress.Halt.TheVariants.{Refused}
use Rattle.tape.specs.declared.progress.Head.{Head}
use Rattle.tape.specs.declared.rows.Row.{Row}
use Rattle.tape.specs.Plan.{Plan, until}
use Rattle.tape.specs.Run.{over_at, going_at, Behind, Took}
use Rattle.tape.proofs.Behind.{some-script}
use Rattle.tape.proofs.Loops.{Turned, no_turn, next-turn, last_turn, out-of-turns}
use Rattle.tape.proofs.Took.{refuses}

-- after i turns, none of which was enough, h and l have become h' and l'
pub record Tried (s : List ℕ) (A : Type 0) (d : A) (body : Plan A) (enough : A → Bool) (limit i : ℕ) (h : Head) (l : List Row) (h' : Head) (l' : List Row) : Type 0 where
  pub turned : Turned s A d body enough limit i (going_at h l) (going_at h' l')

pub none_tried : {s : List ℕ} {A : Type 0} {d : A} {body : Plan A} {enough : A → Bool} {limit : ℕ} {h : Head} {l : List Row}
    → Tried s A d body enough limit 0 h l h l
none_tried = record { turned = no_turn }

-- words are only ever taken
pub tried_on : {n : ℕ} {rest : List ℕ} {A : Type 0} {d : A} {body : Plan A} {enough : A → Bool} {limit i : ℕ} {h h' : Head}
    → ((s : List ℕ) (l : List Row) → Behind n rest s → Tried s A d body enough limit i h l h' l) → h.used ≤ h'.used
tried_on {n} {rest} t = some-script n rest (λ s part. (t s [] part).turned.grown)

module _ {s : List ℕ} {A : Type 0} {d : A} {body : Plan A} {enough : A → Bool} {limit i : ℕ} {h h' : Head} {l l' : List Row}
    (t : Tried s A d body enough limit i h l h' l') where
  -- no turn is left
  pub spent : limit ≤ i → Took s A d (until limit enough body) h l (Err (Refused SoftwareTimeout)) h' l'
  spent none = record { gave = out-of-turns t.turned none refuses.gave }

  module _ {h'' : Head} {l'' : List Row} (more : i < limit) where
    -- this turn was enough
    pub enough-now : {v : A} → Took s A d body h' l' (Ok v) h'' l'' → enough v ≡ true → Took s A d (until limit enough body) h l (Ok v) h'' l''
    unfolding over_at
    enough-now e is = record { gave = last_turn t.turned more e.gave is }

    -- it stopped the call
    pub stopped-now : {x : Halt} → Took s A d body h' l' (Err x) h'' l'' → Took s A d (until limit enough body) h l (Err x) h'' l''
    unfolding over_at
    stopped-now e = record { gave = last_turn t.turned more e.gave refl }

    -- it was not enough
    pub once-more : {v : A} → Took s A d body h' l' (Ok v) h'' l'' → enough v ≡ false → Tried s A d body enough limit (i + 1) h l h'' l''
    unfolding over_at
    once-more e is = record { turned = next-turn t.turned more e.gave is }
