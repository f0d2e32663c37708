-- A pen that wrote holds the buffer that it was made over.
use Prim.Native.Nat.{ℕ}
use mathlib.Core.List.{List}
use mathlib.Core.Path.{◌≡◌, ap, sym, ◌∙◌}
use Rattle.text.specs.Pens.{written}
use Rattle.text.specs.declared.pen.Pen.{Pen}
use Rattle.text.proofs.Pens.{same_buffer}

pub same_name : (text : List ℕ) (start : Pen) {end : Pen} {name : ℕ} → end ≡ written text start → start.out.ghost_name ≡ name → name ≡ end.out.ghost_name
same_name text start w e = sym (ap (λ (p : Pen). p.out.ghost_name) w ∙ same_buffer text start ∙ e)
