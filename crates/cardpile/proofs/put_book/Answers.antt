use Rattle.std.proofs.Common.{sym, rules}
use lib.Seq.{length-take-le}
use Rattle.text.proofs.Lent.{same_name}
use Rattle.cardpile.proofs.put_book.Goals as goal

pub slice_bounds-put-end : goal.slice_bounds-put-end
slice_bounds-put-end g c = let name = same_name _ _ c.put_line.ensures c.new-pen.ensures.same in
    let inside = c.put_line.new.pen.within in
    search (rules, inside)

pub slice_bounds-put-end-2 : goal.slice_bounds-put-end-2
slice_bounds-put-end-2 g c = let name = same_name _ _ c.put_line.ensures c.new-pen.ensures.same in
    let inside = c.put_line.new.pen.within in
    sym (length-take-le _ _ (search (rules, inside)))
