-- Numbers as text, computed from the definitions.
use Rattle.std.specs.Prelude.{[], ◌∷◌, ◌≡◌, refl}
use Rattle.text.specs.Digits.{decimal_in, decimal_of, hex_of}
use Rattle.text.specs.Ink.{inked, next}

zero : decimal_of 0 ≡ 48 ∷ []
unfolding decimal_in decimal_of
zero = refl

block : decimal_of 512 ≡ 53 ∷ 49 ∷ 50 ∷ []
unfolding decimal_in decimal_of
block = refl

-- 00c007ff
mask : hex_of 8 0xc007ff ≡ 48 ∷ 48 ∷ 99 ∷ 48 ∷ 48 ∷ 55 ∷ 102 ∷ 102 ∷ []
unfolding hex_of
mask = refl

-- 17 into four bytes from the third on: all of it; 256: its first two digits
fits : inked 2 (49 ∷ 55 ∷ []) (0 ∷ 0 ∷ 0 ∷ 0 ∷ []) ≡ 0 ∷ 0 ∷ 49 ∷ 55 ∷ []
unfolding inked
fits = refl

cut : inked 2 (50 ∷ 53 ∷ 54 ∷ []) (0 ∷ 0 ∷ 0 ∷ 0 ∷ []) ≡ 0 ∷ 0 ∷ 50 ∷ 53 ∷ []
unfolding inked
cut = refl

stands : next 2 (50 ∷ 53 ∷ 54 ∷ []) (0 ∷ 0 ∷ 0 ∷ 0 ∷ []) ≡ 4
unfolding next
stands = refl
