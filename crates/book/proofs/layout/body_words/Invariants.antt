use Prim.Native.Nat.{◌+◌, ◌*◌, ◌-◌, ◌≤◌}
use mathlib.Core.Path.{◌≡◌}
use lib.ListN.{drop}
use Rattle.book.specs.Layout.{body_words}
use Rattle.book.proofs.layout.body_words.Given as goal

-- the sum, with the words of the rows from k on, is all; each row adds less than 2 ^ 32
abbrev pub invariant-loop-k : goal.invariant-loop-k
invariant-loop-k l = (body_words l.n (drop 7 l.words) ≡ l.sum + body_words (l.n - l.k) (drop (7 + 4 * l.k) l.words)) × (l.sum ≤ 4294967295 * l.k)
