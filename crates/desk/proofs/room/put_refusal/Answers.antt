use Rattle.std.proofs.Common.{rules, ◌≡◌}
use Rattle.text.proofs.Pens.{made_over, and_written, same_buffer}
use Rattle.desk.specs.Refusal.{name_text, error_text, refusal_text}
use Rattle.desk.proofs.Refusals.{said}
use Rattle.desk.proofs.room.put_refusal.Goals as goal

pub returns : goal.returns
unfolding refusal_text
returns c = let a = c.args in
    let wrote = and_written (name_text a.program) (error_text a.error) c.new-pen.result (rw c.name.ensures at c.put.ensures) (rw c.text.ensures at c.put-2.ensures) in
    let named : c.put-2.new.self.out.ghost_name ≡ c.new-pen.result.out.ghost_name = rw wrote (same_buffer _ _) in
    let both = said a.program a.error c.requires (made_over c.new-pen.result c.new-pen.ensures.stands c.new-pen.ensures.held wrote (search (rules, same_buffer))) in record { whole = both.0; laid = both.1 }
