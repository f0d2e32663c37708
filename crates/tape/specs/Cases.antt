-- Layouts, computed from the definitions.
use Rattle.std.specs.Prelude.{true, false, List, [], ◌∷◌, ◌≡◌, refl}
use Rattle.tape.specs.declared.rows.Row.{Row}
use Rattle.tape.specs.Layout.{words_of, rows_in, pairs_of, rows_of_pairs, pairs_over, too_short}

-- MASK 0 and ICR 0x73a
abbrev two : List Row
two = record { register = 9; value = 0 } ∷ record { register = 8; value = 0x73a } ∷ []

layouts : (words_of two ≡ 0x9_0000_0000 ∷ 0x8_0000_073a ∷ []) × (pairs_of two ≡ 9 ∷ 0 ∷ 8 ∷ 0x73a ∷ [])
unfolding words_of pairs_of
layouts = (refl, refl)

both_tell : (rows_in (0x9_0000_0000 ∷ 0x8_0000_073a ∷ []) ≡ two) × (rows_of_pairs (9 ∷ 0 ∷ 8 ∷ 0x73a ∷ []) ≡ two)
unfolding rows_in rows_of_pairs
both_tell = (refl, refl)

-- one of the two rows into five words; both need four
converted : (pairs_over 1 two (1 ∷ 2 ∷ 3 ∷ 4 ∷ 5 ∷ []) ≡ 9 ∷ 0 ∷ 3 ∷ 4 ∷ 5 ∷ []) × (pairs_over 2 two (1 ∷ 2 ∷ 3 ∷ 4 ∷ []) ≡ 9 ∷ 0 ∷ 8 ∷ 0x73a ∷ [])
unfolding pairs_over pairs_of
converted = (refl, refl)

short : (too_short 2 two (1 ∷ 2 ∷ 3 ∷ 4 ∷ []) ≡ false) × (too_short 2 two (1 ∷ 2 ∷ 3 ∷ []) ≡ true) × (too_short 3 two (1 ∷ 2 ∷ 3 ∷ 4 ∷ 5 ∷ 6 ∷ []) ≡ true)
short = (refl, refl, refl)
