-- A write gives no words: what its answers are to the plan of a data phase.
use Prim.Native.Nat.{ℕ}
use mathlib.Core.List.{List, []}
use mathlib.Core.Path.{refl}
use Rattle.std.specs.Prelude.{Result, Ok, Err}
use Rattle.tape.specs.declared.progress.Halt.{Halt}
use Rattle.tape.specs.declared.progress.Head.{Head}
use Rattle.tape.specs.declared.rows.Row.{Row}
use Rattle.tape.specs.Plan.{Nothing, Plan, give, ◌then◌}
use Rattle.tape.specs.Run.{Took, Went}
use Rattle.tape.proofs.Laws.{bind, from-stopped}
use Rattle.tape.proofs.Took.{gives, next}
use Rattle.bus.specs.Transfer.{sent_in}

pub sent : {s : List ℕ} {p : Plan Nothing} {h h' : Head} {l l' : List Row} {r : Result Nothing Halt}
    → Went s p h l r h' l' → Took s (List ℕ) [] (p then λ _. give []) h l (sent_in r) h' l'
sent {r = Ok v} e = next e gives
sent {r = Err x} e = record { gave = bind (λ _. give []) e.gave (from-stopped refl) }
