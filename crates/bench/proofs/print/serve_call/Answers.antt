use Prim.Native.Nat.{◌+◌, ◌*◌, ◌≤◌}
use mathlib.Core.Path.{◌≡◌, ap}
use native.Mathlib.Omega.{arith}
use lib.ListN.{get_or, replicate}
use Rattle.tape.specs.Layout.{rows_in}
use Rattle.host.specs.Calls.{called_of}
use Rattle.host.specs.declared.host.Called.{Called}
use Rattle.book.specs.Readers.{asked_at, call_asked}
use Rattle.bench.specs.Bench.{came_of}
use Rattle.bench.proofs.Gives.{line_written}
use Rattle.bench.proofs.Zeros.{part-of-zeros}
use Rattle.bench.proofs.print.serve_call.Goals as goal

pub returns-clause-served : goal.returns-clause-served
returns-clause-served c =
    let turn = c.args.turn in
    let few : get_or c.args.words.now (7 + 4 * c.args.k + 2) 0 ≤ 16 = c.requires.1 in
    let called : c.ask_in-called.result ≡ called_of (came_of turn.host c.args.words.now c.args.k turn.body_at) =
    rw (c.call_at-asked.ensures, part-of-zeros (512 * get_or c.args.words.now (7 + 4 * c.args.k + 2) 0) 8192 (omega (arith, few))) at c.ask_in-called.ensures.answered in
    ap (λ (x : Called). x.host) called

pub returns-clause-printed : goal.returns-clause-printed
returns-clause-printed c =
    let turn = c.args.turn in
    let ws = c.args.words.now in
    let k = c.args.k in
    let b = get_or ws (7 + 4 * k + 2) 0 in
    let few : b ≤ 16 = c.requires.1 in
    let called : c.ask_in-called.result ≡ called_of (came_of turn.host ws k turn.body_at) =
    rw (c.call_at-asked.ensures, part-of-zeros (512 * b) 8192 (omega (arith, few))) at c.ask_in-called.ensures.answered in
    line_written (k + 1) (rows_in (replicate 4096 0)) (replicate (512 * b) 0) (call_asked ws (asked_at ws k turn.body_at)) (came_of turn.host ws k turn.body_at) c.args.pen.now called
    (rw c.call_at-asked.ensures at c.put_call.ensures)
