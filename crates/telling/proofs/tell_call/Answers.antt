use Prim.Native.Nat.{ℕ, ◌+◌, min}
use mathlib.Core.List.{List}
use mathlib.Core.Path.{ap, ◌∙◌}
use native.Mathlib.Omega.{arith}
use lib.ListN.{take, replicate}
use Rattle.tape.specs.declared.rows.Row.{Row}
use Rattle.tape.specs.Layout.{rows_in}
use Rattle.book.specs.Readers.{asked_at}
use Rattle.bench.specs.Trace.{bytes_at}
use Rattle.bench.proofs.Zeros.{part-of-zeros, zeros-call}
use Rattle.telling.specs.Told.{call_out}
use Rattle.telling.proofs.tell_call.Goals as goal

pub returns : goal.returns
returns g c = let a = c.args in
    let ws = a.words.now in
    let turn = a.turn in
    let asked = asked_at ws a.k turn.body_at in
    let rows = min a.room 4096 in
    let bytes = bytes_at ws a.k turn.body_at in
    let list = ap rows_in (part-of-zeros rows 4096 (omega arith)) in
    let buffer = part-of-zeros bytes 8192 (omega arith) in
    let said = c.tell_in.ensures in
    let out : List ℕ → List Row → List ℕ = λ b l. call_out (a.k + 1) turn.host ws asked b l a.out.now in record {
      next = rw (zeros-call ws asked rows bytes list buffer) at said.next;
      told = said.told ∙ ap (out (take bytes (replicate 8192 0))) list ∙ ap (λ (b : List ℕ). out b (rows_in (replicate rows 0))) buffer;
    }
