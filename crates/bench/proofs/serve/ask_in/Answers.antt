use Prim.Native.Nat.{ℕ, ◌*◌}
use mathlib.Core.List.{List, ◌++◌}
use mathlib.Core.Path.{ap}
use native.Mathlib.Omega.{arith}
use lib.ListN.{drop, length-take}
use Rattle.bench.proofs.serve.ask_in.Goals as goal

pub slice_bounds-ask-end-2 : goal.slice_bounds-ask-end-2
slice_bounds-ask-end-2 c = rw length-take (omega (arith, c.requires))

pub returns : goal.returns
returns c = let done = c.ask.ensures in
    record { answered = done.answered; listed = done.listed; filled = ap (λ (l : List ℕ). l ++ drop (512 * c.args.asked.b) c.args.buffer.now) done.filled }
