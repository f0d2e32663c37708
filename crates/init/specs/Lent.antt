-- Data words as they are copied out of the script.
use Rattle.std.specs.Prelude.{ℕ, List, map, get_or}
use Rattle.types.specs.Words.{counted}

-- the first sixteen of some words, zeros past their end
unfoldable pub sixteen_of : List ℕ → List ℕ
sixteen_of ws = map (λ k. get_or ws k 0) (counted 0 16)
