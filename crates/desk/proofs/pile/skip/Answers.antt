use Rattle.std.proofs.Common.{rules}
use Rattle.std.proofs.lemmas.Result.{err_from_is_err_and}
use Rattle.desk.proofs.Piles.{past_more, past_fewer}
use Rattle.desk.proofs.pile.skip.Goals as goal

pub returns-in_err-fill : goal.returns-in_err-fill
returns-in_err-fill g c = let p = err_from_is_err_and c.from_residual.result c.from_residual.ensures.1 in
    rw (p.1, p.2) (past_fewer _ _ _ _ c.loop-left.left _ c.args.count (search rules) c.loop-left.invariant c.in_err-fill.ensures.passes)

pub loop-left-preserved : goal.loop-left-preserved
loop-left-preserved g c =
    past_more _ _ _ c.loop-left.left c.min-now.result c.args.count (search rules) c.loop-left.invariant c.fill.new.buffer (search rules) c.in_ok-fill.ensures.whole
