use Rattle.std.proofs.Common.{◌≡◌, sym, rules}
use lib.Seq.{length-take-le}
use Rattle.text.proofs.Pens.{same_buffer}
use Rattle.bookwords.proofs.refuse.Goals as goal

pub slice_bounds-put-end : goal.slice_bounds-put-end
slice_bounds-put-end g c = let named : c.put_refusal.new.pen.out.ghost_name ≡ c.new-pen.result.out.ghost_name = rw c.put_refusal.ensures (same_buffer _ _) in
    let inside = c.put_refusal.new.pen.within in
    search (rules, inside)

pub slice_bounds-put-end-2 : goal.slice_bounds-put-end-2
slice_bounds-put-end-2 g c = let named : c.put_refusal.new.pen.out.ghost_name ≡ c.new-pen.result.out.ghost_name = rw c.put_refusal.ensures (same_buffer _ _) in
    let inside = c.put_refusal.new.pen.within in
    sym (length-take-le _ _ (search (rules, inside)))
