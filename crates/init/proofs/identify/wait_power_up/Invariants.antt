use Rattle.tape.specs.Layout.{rows_in}
use Rattle.tape.proofs.Tries.{Tried}
use Prim.Native.Nat.{ℕ}
use Rattle.init.specs.Initialise.{powered_up, try_power_up}
use Rattle.init.proofs.identify.wait_power_up.Given as goal

abbrev pub invariant-loop : goal.invariant-loop
invariant-loop l =
    Tried l.script ℕ 0 (try_power_up l.settings l.version2) powered_up l.settings.config.card_ready_attempts l.counter
    l.initial.head (rows_in l.initial.rows) l.head (rows_in l.rows)
