use mathlib.Core.Path.{◌≡◌}
use lib.ListN.{length}
use Rattle.telling.proofs.Books.{Stands}
use Rattle.telling.proofs.tell_calls.Given as goal

abbrev pub invariant-loop-k : goal.invariant-loop-k
invariant-loop-k g l = (length l.out ≡ length l.initial.out)
    × Stands l.words l.room (record { host = l.fn.start.host; place = l.fn.start.body_at; out = l.initial.out }) l.k l.turn.host l.turn.body_at l.out
