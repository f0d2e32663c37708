use Prim.Native.Nat.{ℕ}
use mathlib.Core.Bool.{Bool, false}
use mathlib.Core.List.{List}
use Rattle.tape.specs.declared.rows.Row.{Row}
use Rattle.tape.specs.Run.{Behind}
use Rattle.bus.specs.Transfer.{data_complete}
use Rattle.tape.proofs.Tries.{Tried}
use Rattle.bus.proofs.poll.wait_data.Given as goal

abbrev pub invariant-loop : goal.invariant-loop
invariant-loop l = (s : List ℕ) (rows : List Row) → Behind l.start l.rest s → Tried s Bool false data_complete (λ done. done) l.limit l.counter l.initial.head rows l.head rows
