-- Words that are polled.
use Rattle.std.specs.Prelude.{ℕ, zero, suc, Bool, cond, List, [], ◌∷◌}

-- how many words in front, at most so many, are like this
unfoldable pub leading : ℕ → (ℕ → Bool) → List ℕ → ℕ
leading zero like ws = 0
leading (suc n) like [] = 0
leading (suc n) like (w ∷ ws) = cond (like w) (suc (leading n like ws)) 0
