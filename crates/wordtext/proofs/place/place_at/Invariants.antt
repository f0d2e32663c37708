use Rattle.std.proofs.Common.{◌≡◌, ◌≤◌, ◌+◌}
use Rattle.wordtext.specs.Text.{place_of}
use Rattle.wordtext.proofs.place.place_at.Given as goal

abbrev pub invariant-loop-b : goal.invariant-loop-b
invariant-loop-b l = (l.p ≡ place_of l.b-items l.b-index) × (l.p.line ≤ l.b-index + 1) × (l.p.column ≤ l.b-index + 1)
