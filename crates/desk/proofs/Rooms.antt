-- A room read digit by digit.
use Prim.Native.Nat.{ℕ, ◌+◌, ◌*◌, ◌-◌, ◌≤◌, ◌<◌}
use mathlib.Core.Bool.{Bool, true, false, cond, not, ◌&&◌}
use mathlib.Core.List.{List, [], ◌∷◌}
use mathlib.Core.Path.{◌≡◌, refl}
use native.Mathlib.Numerals.{add-one}
use native.Mathlib.Omega.{arith}
use lib.Dec.{eqb, leb, ltb}
use lib.ListN.{length, get_or, drop}
use lib.Seq.{drop-cons}
use borrow.Author.Tests.{eq-eqb, ne_eqb, le-leb, lt-leb, leb-true}
use Rattle.std.specs.Prelude.{Option, None, Some, Result, Ok, Err}
use Rattle.std.specs.Option.{ok_or}
use Rattle.std.specs.Result.{result_ok}
use Rattle.desk.specs.declared.room.ArgumentError.{ArgumentError}
use Rattle.desk.specs.declared.room.ArgumentError.TheVariants.{TooMany, NoRoom}
use Rattle.desk.specs.Room.{are_digits, value_from, room_from, room_of, wish_by, wish_of, Wishes, granted_of, Fits}

-- more digits make no number smaller
no_less : (value : ℕ) (bs : List ℕ) → value ≤ value_from value bs
unfolding value_from
no_less value [] = omega arith
no_less value (b ∷ bs) = omega (arith, no_less (value * 10 + (b - 48)) bs)

never : (digits : Bool) (room : Option ℕ) → cond (digits && false) room None ≡ None
never true room = refl
never false room = refl

-- so a number that is too large is no room, whatever follows
pub too_large : (value : ℕ) (bs : List ℕ) → 4_096 < value → room_from value bs ≡ None
too_large value bs h = rw (lt-leb (value_from value bs) 4_096 (omega (arith, no_less value bs))) (never (are_digits bs) _)

-- all digits were read
pub all_read : (value : ℕ) → value ≤ 4_096 → room_from value [] ≡ Some value
unfolding are_digits value_from
all_read value h = rw (le-leb value 4_096 h)

-- the byte at i
module _ (word : List ℕ) (i value : ℕ) (h : i < length word) where
  pub below : get_or word i 0 < 48 → room_from value (drop i word) ≡ None
  unfolding are_digits
  below k = rw (drop-cons word i 0 h, lt-leb 48 (get_or word i 0) k)

  pub above : 48 ≤ get_or word i 0 → 57 < get_or word i 0 → room_from value (drop i word) ≡ None
  unfolding are_digits
  above j k = rw (drop-cons word i 0 h, le-leb 48 (get_or word i 0) j, lt-leb (get_or word i 0) 57 k)

  pub digit : 48 ≤ get_or word i 0 → get_or word i 0 ≤ 57 → room_from value (drop i word) ≡ room_from (value * 10 + (get_or word i 0 - 48)) (drop (i + 1) word)
  unfolding are_digits value_from
  digit j k = rw (drop-cons word i 0 h, le-leb 48 (get_or word i 0) j, le-leb (get_or word i 0) 57 k, add-one)

-- words that are empty, too long, or neither
module _ (word : List ℕ) where
  pub empty : length word ≡ 0 → room_of word ≡ None
  unfolding room_of
  empty e = rw (eq-eqb (length word) 0 e)

  pub long : (length word ≡ 0 → ⊥) → 4 < length word → room_of word ≡ None
  unfolding room_of
  long n k = rw (ne_eqb (length word) 0 n, lt-leb (length word) 4 k)

  pub short : (length word ≡ 0 → ⊥) → length word ≤ 4 → room_of word ≡ room_from 0 word
  unfolding room_of
  short n k = rw (ne_eqb (length word) 0 n, le-leb (length word) 4 k)

-- a room is at most 4,096 rows
fits-from : (value : ℕ) (digits small : Bool) → leb value 4_096 ≡ small → Fits (cond (digits && small) (Some value) None)
fits-from value true true e = leb-true value 4_096 e
fits-from value true false e = tt
fits-from value false small e = tt

fits_by : (sized : Bool) (room : Option ℕ) → Fits room → Fits (cond sized room None)
fits_by true room f = f
fits_by false room f = tt

pub fits : (word : List ℕ) → Fits (room_of word)
unfolding room_of
fits word = fits_by (not (eqb (length word) 0) && leb (length word) 4) (room_from 0 word) (fits-from (value_from 0 word) (are_digits word) (leb (value_from 0 word) 4_096) refl)

-- and so is one that is granted
wish_fits : (count : ℕ) (room : Option ℕ) (few many : Bool) → Fits room → Fits (granted_of (cond few (Ok 4_096) (cond many (Err TooMany) (wish_by room))))
wish_fits count (Some n) true many f = omega arith
wish_fits count (Some n) false true f = tt
wish_fits count (Some n) false false f = f
wish_fits count None true many f = omega arith
wish_fits count None false true f = tt
wish_fits count None false false f = tt

pub granted_fits : (count : ℕ) (wish : Result ℕ ArgumentError) → Wishes count wish → Fits (granted_of wish)
unfolding wish_of
granted_fits count wish w = rw w.1 (wish_fits count (room_of w.0) (ltb count 2) (ltb 2 count) (fits w.0))

-- what std makes of an option and a result
pub wished : (room : Option ℕ) → ok_or room NoRoom ≡ wish_by room
wished None = refl
wished (Some n) = refl

pub granted : (wish : Result ℕ ArgumentError) → result_ok wish ≡ granted_of wish
granted (Ok n) = refl
granted (Err e) = refl
