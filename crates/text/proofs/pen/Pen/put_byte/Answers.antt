use mathlib.Core.Path.{sym, ◌∙◌, refl}
use native.Mathlib.Omega.{arith}
use lib.Seq.{set_out}
use Rattle.text.specs.Ink.{next}
use Rattle.text.proofs.Ink.{ink_sets}
use Rattle.text.proofs.Pens.{written_as}
use Rattle.text.proofs.pen.Pen.put_byte.Goals as goal

pub returns-then-self : goal.returns-then-self
unfolding next
returns-then-self c = written_as c.args.self.now refl (record { placed = omega arith; laid = sym (ink_sets _ _ _) })

pub returns-else-self : goal.returns-else-self
unfolding next
returns-else-self c = written_as c.args.self.now refl (record { placed = omega arith; laid = sym (ink_sets _ _ _ ∙ set_out _ _ _ c.if-self.false) })
