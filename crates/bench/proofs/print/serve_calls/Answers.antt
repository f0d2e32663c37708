use native.Mathlib.Omega.{arith}
use Rattle.book.proofs.Causes.{good-words}
use Rattle.book.proofs.Reached.{body_within}
use Rattle.bench.proofs.Turns.{first-turn, next-turn, last_turn, blocks-of}
use Rattle.bench.proofs.print.serve_calls.Goals as goal

pub loop-k-init : goal.loop-k-init
loop-k-init c = rw c.contents.ensures (first-turn (good-words c.args.words.now c.requires))

pub serve_call-turn-requires : goal.serve_call-turn-requires
serve_call-turn-requires c = let ws = c.args.words.now in
    let good = good-words ws c.requires in
    let t = c.loop-k.invariant in
    let count = c.word-k-end.ensures in
    let more = c.loop-k-test.true in
    (omega (arith, good.most, count, more), blocks-of t (omega (arith, count, more)), body_within ws _ _ t.reached (omega (arith, count, more)))

pub loop-k-preserved : goal.loop-k-preserved
loop-k-preserved c = let done = c.serve_call-turn.ensures in
    let count = c.word-k-end.ensures in
    let more = c.loop-k-test.true in
    next-turn c.loop-k.invariant (omega (arith, count, more)) done.served done.passed done.printed

pub returns : goal.returns
returns c = let count = c.word-k-end.ensures in
    last_turn c.loop-k.invariant (omega (arith, count, c.loop-k-test.false))
