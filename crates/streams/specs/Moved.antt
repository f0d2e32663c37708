-- What a reading may answer.
use Rattle.std.specs.Prelude.{ℕ, ◌≤◌, Result, Ok, Err}

-- where there was room for n bytes: how many came, at most n, or why it failed
abbrev pub Moved : {E : Type 0} → ℕ → Result ℕ E → Type 0
Moved n (Ok k) = k ≤ n
Moved n (Err why) = Unit {0}
