use Rattle.std.proofs.Common.{List, ℕ, ap, ◌∙◌, append_assoc}
use Rattle.text.specs.Pens.{written}
use Rattle.text.proofs.Pens.{and_written}
use Rattle.bookwords.proofs.put_refusal.Goals as goal

pub returns : goal.returns
returns c = let placed = and_written _ _ c.args.pen.now (and_written _ _ c.args.pen.now c.put_named.ensures c.put_named-2.ensures) c.put.ensures in
    let told = and_written _ _ c.args.pen.now placed (rw c.cause_text.ensures at c.put-2.ensures) in
    and_written _ _ c.args.pen.now told c.put_byte.ensures ∙ ap (λ (text : List ℕ). written text c.args.pen.now) (simp append_assoc)
