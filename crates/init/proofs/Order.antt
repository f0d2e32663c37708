-- What comes before what in an initialisation.
use Rattle.std.specs.Prelude.{Err}
use mathlib.Core.List.{List}
use mathlib.Core.Path.{◌≡◌}
use Prim.Native.Nat.{ℕ}
use lib.Dec.{eqb}
use Rattle.types.specs.declared.error.Error.{Error}
use Rattle.types.specs.declared.error.Error.TheVariants.{UnsupportedCardType}
use Rattle.types.specs.declared.error.Field.TheVariants.{CsdAndOcr}
use Rattle.types.specs.Bits.{bits}
use Rattle.types.specs.Leaf.{count_of}
use Rattle.types.specs.Sd.{wide_of}
use Rattle.types.specs.Words.{halves_of}
use Rattle.tape.specs.Plan.{handle, ◌then◌, fail, ensure}
use Rattle.init.specs.Initialise.{same, high_capacity, select}

-- the capacity comes before CMD7: a card whose capacity is refused is not selected
pub unselected : (limit ocr rca : ℕ) (cid csd : List ℕ) (e : Error) → count_of (wide_of (halves_of csd)) ≡ Err e
    → select limit ocr rca cid csd
    ≡ (ensure (same (high_capacity ocr) (eqb (bits (wide_of (halves_of csd)) 127 126) 1)) (UnsupportedCardType CsdAndOcr) then λ _. fail e)
unfolding select handle
unselected limit ocr rca cid csd e h = simp h
