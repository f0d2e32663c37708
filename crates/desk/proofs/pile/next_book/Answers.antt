use Rattle.std.proofs.Common.{rules}
use Rattle.std.proofs.lemmas.Result.{err_from_is_err_and}
use Rattle.desk.proofs.Piles.{cut_in_buffer, cut_past_buffer, whole_book}
use Rattle.desk.proofs.pile.next_book.Goals as goal

pub returns-in_err-fill-clause-bytes : goal.returns-in_err-fill-clause-bytes
returns-in_err-fill-clause-bytes g c = let p = err_from_is_err_and c.from_residual-in_err-fill.result c.from_residual-in_err-fill.ensures.1 in
    let head = rw c.in-Some.is at c.in_ok-size.ensures in
    rw (p.1, p.2) (cut_in_buffer _ _ _ c.in-Some.size c.min-held.result _ _ _ head (search rules) (search rules) c.in_err-fill.ensures.passes)

pub returns-in_err-skip-clause-bytes : goal.returns-in_err-skip-clause-bytes
returns-in_err-skip-clause-bytes g c = let p = err_from_is_err_and c.from_residual-in_err-skip.result c.from_residual-in_err-skip.ensures.1 in
    let head = rw c.in-Some.is at c.in_ok-size.ensures in
    rw (p.1, p.2) (cut_past_buffer _ _ _ _ c.in-Some.size c.min-held.result c.fill.new.buffer _ _ head (search rules) (search rules) c.in_ok-fill.ensures.whole c.in_err-skip.ensures)

pub returns-clause-bytes : goal.returns-clause-bytes
returns-clause-bytes g c =
    let head = rw c.in-Some.is at c.in_ok-size.ensures in
    whole_book _ _ _ _ c.in-Some.size c.min-held.result c.fill.new.buffer c.args.buffer.now _ head (search rules) c.min-held.ensures c.in_ok-fill.ensures.whole c.in_ok-skip.ensures
