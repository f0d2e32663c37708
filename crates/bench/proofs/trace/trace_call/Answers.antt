use Prim.Native.Nat.{ℕ, ◌+◌, min}
use mathlib.Core.List.{List}
use mathlib.Core.Path.{ap, ◌∙◌}
use native.Mathlib.Omega.{arith}
use Rattle.tape.specs.Layout.{rows_in}
use Rattle.text.specs.Pens.{written}
use Rattle.calls.specs.Serve as S
use Rattle.calls.specs.Serve.{comes}
use Rattle.book.specs.Readers.{asked_at}
use Rattle.bench.specs.Trace.{bytes_at}
use Rattle.bench.proofs.Zeros.{part-of-zeros, zeros-call, zeros-text}
use Rattle.bench.proofs.trace.trace_call.Goals as goal

pub returns-clause-served : goal.returns-clause-served
returns-clause-served c = let args = c.args in
    let ws = args.words.now in
    let turn = args.turn in
    let rows = min args.room 4096 in
    let bytes = bytes_at ws args.k turn.body_at in
    let list = ap rows_in (part-of-zeros rows 4096 (omega arith)) in
    let buffer = part-of-zeros bytes 8192 (omega arith) in
    c.trace_in.ensures.served ∙ ap (λ (x : S.Call). (comes turn.host x).host) (zeros-call ws (asked_at ws args.k turn.body_at) rows bytes list buffer)

pub returns-clause-traced : goal.returns-clause-traced
returns-clause-traced c = let args = c.args in
    let ws = args.words.now in
    let turn = args.turn in
    let rows = min args.room 4096 in
    let bytes = bytes_at ws args.k turn.body_at in
    let list = ap rows_in (part-of-zeros rows 4096 (omega arith)) in
    let buffer = part-of-zeros bytes 8192 (omega arith) in
    c.trace_in.ensures.traced
    ∙ ap (λ (t : List ℕ). written t args.pen.now) (zeros-text ws (asked_at ws args.k turn.body_at) rows bytes list buffer (args.k + 1) turn.host)
