use mathlib.Core.Path.{◌≡◌, refl, ap, sym, ◌∙◌}
use mathlib.Core.Bool.{false}
use mathlib.Core.List.{List, ◌++◌}
use Prim.Native.Nat.{ℕ}
use lib.ListN.{take, drop}
use Rattle.std.proofs.Common.{take-append-drop}
use Rattle.text.specs.declared.pen.Pen.{Pen}
use Rattle.text.specs.Pens.{written}
use Rattle.text.proofs.Pens.{and_written}
use Rattle.events.specs.Meaning.{flags, flags_text, Flag}
use Rattle.events.proofs.flags.put_flags.Goals as goal

-- a table's first lines and its last two make it: one whose last lines are others is refused for these alone
by_lines : (table due : List Flag) (status : ℕ) (p : Pen) {q : Pen} → q ≡ written (flags_text false table status) p
    → take 10 table ≡ take 10 due → drop 10 table ≡ drop 10 due → q ≡ written (flags_text false due status) p
by_lines table due status p e first last =
    let same : table ≡ due = sym (take-append-drop 10 table) ∙ (λ i. first i ++ last i) ∙ take-append-drop 10 due in
    e ∙ ap (λ (t : List Flag). written (flags_text false t status) p) same

pub returns : goal.returns
unfolding flags
returns c = and_written _ _ _ c.put.ensures (by_lines _ flags _ _ c.put_lines.ensures refl refl)
