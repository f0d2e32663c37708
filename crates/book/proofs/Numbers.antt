-- Numbers and kinds: what number a kind is of, and that a number of no kind is none of the four.
use Prim.Native.Nat.{ℕ}
use mathlib.Core.Bool.{Bool, true, false, cond}
use mathlib.Core.Path.{◌≡◌, refl, sym, ◌∙◌}
use borrow.Author.Tests.{eqb-true}
use lib.Dec.{eqb}
use Rattle.std.specs.Prelude.{Option, Some, None}
use Rattle.book.specs.declared.layout.Kind.{Kind}
use Rattle.book.specs.declared.layout.Kind.TheVariants.{Initialise, Read, Status, Write}
use Rattle.book.specs.Readers.{kind_in}

-- the number of a kind, and what tests say of it
abbrev pub Numbered : Option Kind → ℕ → Type 0
Numbered (Some Initialise) n = n ≡ 1
Numbered (Some Read) n = n ≡ 2
Numbered (Some Status) n = n ≡ 3
Numbered (Some Write) n = n ≡ 4
Numbered None n = (eqb n 1 ≡ false) × (eqb n 2 ≡ false) × (eqb n 3 ≡ false) × (eqb n 4 ≡ false)

pub numbered : (n : ℕ) → Numbered (kind_in n) n
numbered n = by (eqb n 1) (eqb n 2) (eqb n 3) (eqb n 4) refl refl refl refl
  where
    by : (one two three four : Bool) → eqb n 1 ≡ one → eqb n 2 ≡ two → eqb n 3 ≡ three → eqb n 4 ≡ four
        → Numbered (cond one (Some Initialise) (cond two (Some Read) (cond three (Some Status) (cond four (Some Write) None)))) n
    by true two three four e f g h = eqb-true n 1 e
    by false true three four e f g h = eqb-true n 2 f
    by false false true four e f g h = eqb-true n 3 g
    by false false false true e f g h = eqb-true n 4 h
    by false false false false e f g h = (e, f, g, h)

-- of a kind that was told of a number
pub its_number : (n : ℕ) {told : Option Kind} → told ≡ kind_in n → (k : Option Kind) → told ≡ k → Numbered k n
its_number n {told} e k f =
    let same : k ≡ kind_in n = sym f ∙ e in
    rw same (numbered n)
