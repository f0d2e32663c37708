-- Lines on a sheet, as leaves.
use Prim.Native.Nat.{ℕ}
use mathlib.Core.List.{List}
use mathlib.Core.Path.{◌≡◌, ap, ◌∙◌}
use Rattle.text.proofs.Ink.{ink_length, stands-within}
use Rattle.sheet.specs.declared.sheet.Sheet.{Sheet}
use Rattle.sheet.specs.Sheet.{Fits, Tells}
use Rattle.telling.specs.Told.{Leaf, leaf, lined}

module _ {line before after : List ℕ} {sheet r : Sheet} (t : Tells line sheet before r after) where
  pub as_leaf : leaf r.at after ≡ lined line (leaf sheet.at before)
  as_leaf = λ i. record { at = t.laid.placed i; out = t.laid.laid i }

  pub still-fits : Fits sheet before → Fits r after
  still-fits f = (stands-within t.laid, rw (t.laid.laid, ink_length) f.1)

-- two lines one after the other: what the buffer holds
pub ends-leaf : {first second before between after : List ℕ} {sheet line state : Sheet} → Tells first sheet before line between
    → Tells second line between state after → after ≡ (lined second (lined first (leaf sheet.at before))).out
ends-leaf {second = second} t t' = ap (λ (p : Leaf). p.out) (as_leaf t' ∙ ap (lined second) (as_leaf t))

pub same_sheet : {r page : Sheet} (out : List ℕ) → r ≡ page → leaf r.at out ≡ leaf page.at out
same_sheet out e = ap (λ (x : Sheet). leaf x.at out) e
