-- The words that a call keeps, sixteen of them, and those of a shorter transfer.
use Prim.Native.Nat.{ℕ}
use mathlib.Core.Path.{◌≡◌, refl, sym}
use mathlib.Core.List.{List, [], ◌∷◌}
use native.Mathlib.Omega.{arith}
use lib.ListN.{length, take, get_or}
use lib.Seq.{take_all}
use Rattle.types.specs.Words.{scr_of}

pub all_sixteen : (held : List ℕ) → length held ≡ 16 → held ≡ take 16 held
all_sixteen held e = sym (take_all 16 held (omega arith))

pub first_two : (held : List ℕ) → scr_of (get_or held 0 0) (get_or held 1 0) ≡ scr_of (get_or (take 2 held) 0 0) (get_or (take 2 held) 1 0)
first_two [] = refl
first_two (a ∷ []) = refl
first_two (a ∷ b ∷ l) = refl
