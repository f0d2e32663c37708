use Rattle.std.proofs.Common.{rules}
use Prim.Native.Nat.{◌+◌}
use Rattle.std.proofs.lemmas.Result.{err_from_is_err_and}
use mathlib.Core.Path.{sym}
use lib.Seq.{length-take-le}
use Rattle.text.proofs.Ink.{stands-within}
use Rattle.text.proofs.Lent.{same_name}
use Rattle.text.proofs.Pens.{made_over}
use Rattle.tracing.proofs.Traces.{first, one_more, all-calls, some-calls}
use Rattle.tracing.proofs.trace_calls.Goals as goal

pub loop-k-init : goal.loop-k-init
loop-k-init g c = (search rules, first _ _ _)

pub slice_bounds-put-end : goal.slice_bounds-put-end
slice_bounds-put-end g c =
    let made = c.new-pen.ensures in
    let name = same_name _ _ c.trace_call-turn.ensures.traced made.same in
    stands-within (made_over _ made.stands made.held c.trace_call-turn.ensures.traced (search rules))

pub slice_bounds-put-end-in-loop-k : goal.slice_bounds-put-end-in-loop-k
slice_bounds-put-end-in-loop-k g c =
    let made = c.new-pen.ensures in
    let name = same_name _ _ c.trace_call-turn.ensures.traced made.same in
    sym (length-take-le _ _ (stands-within (made_over _ made.stands made.held c.trace_call-turn.ensures.traced (search rules))))

pub returns-in_err-put : goal.returns-in_err-put
returns-in_err-put g c = let head = c.loop-k in
    let said = c.trace_call-turn.ensures in
    let made = c.new-pen.ensures in
    let name = same_name _ _ said.traced made.same in
    let p = err_from_is_err_and c.from_residual.result c.from_residual.ensures.1 in
    rw p.1 (some-calls (head.k + 1) _ (one_more _ _ _ _ _ _ _ _ _ _ _ head.invariant.1 said.served said.passed (made_over _ made.stands made.held said.traced (search rules))) (search rules) _)

pub loop-k-preserved : goal.loop-k-preserved
loop-k-preserved g c = let head = c.loop-k in
    let said = c.trace_call-turn.ensures in
    let made = c.new-pen.ensures in
    let name = same_name _ _ said.traced made.same in
    (search rules, one_more _ _ _ _ _ _ _ _ _ _ _ head.invariant.1 said.served said.passed (made_over _ made.stands made.held said.traced (search rules)))

pub returns : goal.returns
returns g c = all-calls c.loop-k.k _ c.loop-k.invariant.1 (search rules)
