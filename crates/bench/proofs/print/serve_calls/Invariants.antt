use Rattle.bench.proofs.Turns.{Serving}
use Rattle.bench.proofs.print.serve_calls.Given as goal

abbrev pub invariant-loop-k : goal.invariant-loop-k
invariant-loop-k l = Serving l.words l.initial.turn.host l.fn.pen l.k l.turn.host l.turn.body_at l.pen
