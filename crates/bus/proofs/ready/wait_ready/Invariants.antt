use mathlib.Core.Bool.{Bool, false}
use Rattle.tape.specs.Layout.{rows_in}
use Rattle.tape.proofs.Tries.{Tried}
use Rattle.bus.specs.Ready.{try_ready}
use Rattle.bus.proofs.ready.wait_ready.Given as goal

abbrev pub invariant-loop : goal.invariant-loop
invariant-loop l =
    Tried l.script Bool false (try_ready l.source.0 l.config.poll_limit l.rca) (λ ready. ready) l.config.card_ready_attempts l.counter
    l.initial.head (rows_in l.initial.rows) l.head (rows_in l.rows)
