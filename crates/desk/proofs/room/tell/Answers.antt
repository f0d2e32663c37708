use Rattle.std.proofs.Common.{sym}
use lib.Seq.{length-take-le}
use Rattle.text.proofs.Ink.{stands-within}
use Rattle.desk.proofs.room.tell.Goals as goal

pub slice_bounds-line-end : goal.slice_bounds-line-end
slice_bounds-line-end g c = stands-within c.put_refusal-n.ensures.laid

pub slice_bounds-put-end : goal.slice_bounds-put-end
slice_bounds-put-end g c = sym (length-take-le _ _ (stands-within c.put_refusal-n.ensures.laid))
