use Prim.Native.Nat.{◌+◌}
use mathlib.Core.Path.{refl}
use Rattle.std.proofs.lemmas.Result.{err_from_is_err_and}
use Rattle.telling.proofs.Books.{first, one_more, all-calls, some-calls}
use borrow.Author.Rules.{rules}
use Rattle.telling.proofs.tell_calls.Goals as goal

pub loop-k-init : goal.loop-k-init
loop-k-init g c = (search rules, first _ _ _)

pub returns-in_err-turn : goal.returns-in_err-turn
returns-in_err-turn g c = let head = c.loop-k in
    let p = err_from_is_err_and c.from_residual.result c.from_residual.ensures.1 in
    rw p.1 (some-calls (head.k + 1) _ (one_more _ _ _ _ _ _ _ _ _ _ head.invariant.1 refl refl c.tell_call.ensures.told) (search rules) _)

pub loop-k-preserved : goal.loop-k-preserved
loop-k-preserved g c = let head = c.loop-k in
    let said = c.in_ok-turn.ensures in
    (search rules, one_more _ _ _ _ _ _ _ _ _ _ head.invariant.1 said.next.0 said.next.1 said.told)

pub returns : goal.returns
returns g c = all-calls c.loop-k.k _ c.loop-k.invariant.1 (search rules)
