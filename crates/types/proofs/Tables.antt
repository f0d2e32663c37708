-- The bound of a table: one computed test over its entries bounds what stands at any place, also past its end.
use Prim.Native.Nat.{ℕ, zero, suc, ◌≤◌, zero-le}
use mathlib.Core.Bool.{Bool, true, false, ◌&&◌}
use mathlib.Core.List.{List, [], ◌∷◌}
use lib.Dec.{T, leb, leb→le}
use lib.ListN.{get_or}

abbrev pub within : ℕ → List ℕ → Bool
within n [] = true
within n (x ∷ xs) = leb x n && within n xs

first : (a b : Bool) → T (a && b) → T a
first true b t = tt
first false b t = t

second : (a b : Bool) → T (a && b) → T b
second true b t = t
second false b t = absurd t

pub bounded : (n : ℕ) (xs : List ℕ) → T (within n xs) → (k : ℕ) → get_or xs k 0 ≤ n
bounded n [] t k = zero-le
bounded n (x ∷ xs) t zero = leb→le x n (first (leb x n) (within n xs) t)
bounded n (x ∷ xs) t (suc k) = bounded n xs (second (leb x n) (within n xs) t) k
