use Prim.Native.Nat.{ℕ}
use mathlib.Core.List.{List}
use mathlib.Core.Path.{ap, ◌∙◌}
use Rattle.text.specs.Pens.{written}
use Rattle.text.proofs.Pens.{and_written}
use Rattle.tape.specs.Layout.{rows_in}
use Rattle.bench.proofs.Gives.{traced}
use Rattle.bench.proofs.trace.trace_exact.Goals as goal

pub returns-clause-traced : goal.returns-clause-traced
returns-clause-traced c = let args = c.args in
    let done = c.ask-called.ensures in
    and_written _ _ _ (and_written _ _ _ c.put_call.ensures c.put_happened.ensures) c.put_given.ensures
    ∙ ap (λ (t : List ℕ). written t args.pen.now)
    (traced args.number args.host (rows_in args.list.now) args.buffer.now args.words.now args.asked done.answered done.listed done.filled)
