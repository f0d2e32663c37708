-- The order's second demand, of the clock without bypass: the least divisor from 2 to 257 with source at most divisor times
-- request, or none.
use Rattle.std.specs.Prelude.{ℕ, ◌*◌, ◌≤◌, Option, Some, None}

-- d brings the source down to the request
pub record Enough (source requested d : ℕ) : Type 0 where
  pub from2 : 2 ≤ d
  pub to257 : d ≤ 257
  pub slow : source ≤ d * requested

-- and no smaller one does
pub record Least (source requested d : ℕ) : Type 0 where
  pub enough : Enough source requested d
  pub least : (e : ℕ) → Enough source requested e → d ≤ e

-- what a search comes to
unfoldable pub Searched : ℕ → ℕ → Option ℕ → Type 0
Searched source requested (Some d) = Least source requested d
Searched source requested None = (d : ℕ) → Enough source requested d → ⊥
