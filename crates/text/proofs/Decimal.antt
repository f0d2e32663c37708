-- Decimal digits read back as the number they were made of; how many there are; no leading zero.
use Prim.Native.Nat.{ℕ, zero, suc, ◌+◌, ◌*◌, ◌-◌, ◌/◌, ◌%◌, ◌^◌, ◌≤◌, ◌<◌}
use mathlib.Core.List.{List, [], ◌∷◌, ◌++◌}
use mathlib.Core.Logic.{⊎_elim}
use mathlib.Core.Path.{◌≡◌, refl, ap}
use native.Mathlib.Nat.{not-suc-le-zero, pow-suc, div-lt_iff_lt-mul}
use native.Mathlib.Omega.{arith}
use borrow.Author.Tests.{lt-ltb, le-ltb}
use lib.ListN.{length, get_or, length-append, get_or-append}
use Rattle.text.proofs.Orders.{either}
use Rattle.text.specs.Digits.{decimal_in, decimal_of}

abbrev last_digit : ℕ → List ℕ
last_digit n = (48 + n % 10) ∷ []

-- turns that suffice all give the same
same : (f g n : ℕ) → n < f → n < g → decimal_in f n ≡ decimal_in g n
unfolding decimal_in
same zero g n h k = absurd (not-suc-le-zero h)
same (suc f) zero n h k = absurd (not-suc-le-zero k)
same (suc f) (suc g) n h k =
    ⊎_elim (λ (w : 10 ≤ n). rw (le-ltb n 10 w) (ap (λ (l : List ℕ). l ++ last_digit n) (same f g (n / 10) (omega arith) (omega arith))))
    (λ (w : n < 10). rw (lt-ltb n 10 w))
    (either 10 n)

pub decimal_one : (n : ℕ) → n < 10 → decimal_of n ≡ last_digit n
unfolding decimal_in decimal_of
decimal_one n h = rw (lt-ltb n 10 h)

pub decimal_more : (n : ℕ) → 10 ≤ n → decimal_of n ≡ decimal_of (n / 10) ++ last_digit n
unfolding decimal_in decimal_of
decimal_more n h = rw (le-ltb n 10 h) (ap (λ (l : List ℕ). l ++ last_digit n) (same n (suc (n / 10)) (n / 10) (omega arith) (omega arith)))

-- READ BACK
unfoldable pub read_from : ℕ → List ℕ → ℕ
read_from value [] = value
read_from value (d ∷ ds) = read_from (value * 10 + (d - 48)) ds

read-last : (value : ℕ) (ds : List ℕ) (d : ℕ) → read_from value (ds ++ (d ∷ [])) ≡ read_from value ds * 10 + (d - 48)
unfolding read_from
read-last value [] d = refl
read-last value (e ∷ ds) d = read-last (value * 10 + (e - 48)) ds d

back : (turns n : ℕ) → n < turns → read_from 0 (decimal_of n) ≡ n
unfolding read_from
back zero n h = absurd (not-suc-le-zero h)
back (suc turns) n h =
    ⊎_elim
    (λ (w : 10 ≤ n).
    rw (decimal_more n w, read-last 0 (decimal_of (n / 10)) (48 + n % 10), back turns (n / 10) (omega arith)) (omega arith))
    (λ (w : n < 10). rw (decimal_one n w) (omega arith))
    (either 10 n)

pub read_back : (n : ℕ) → read_from 0 (decimal_of n) ≡ n
read_back n = back (suc n) n (omega arith)

-- a number below 10 ^ k has at most k digits
pub digits-at-most : (k n : ℕ) → n < 10 ^ suc k → length (decimal_of n) ≤ suc k
digits-at-most zero n h = rw (decimal_one n h) (omega arith)
digits-at-most (suc k) n h =
    ⊎_elim
    (λ (w : 10 ≤ n).
    rw (decimal_more n w, length-append) (omega (arith, digits-at-most k (n / 10) ((div-lt_iff_lt-mul (omega arith)).1 (rw pow-suc at h)))))
    (λ (w : n < 10). rw (decimal_one n w) (omega arith))
    (either 10 n)

pub ten-digits : (n : ℕ) → n < 2 ^ 32 → length (decimal_of n) ≤ 10
ten-digits n h = digits-at-most 9 n (omega arith)

-- a number that is not 0 does not begin with 0
some-digit : (n : ℕ) → 0 < length (decimal_of n)
some-digit n =
    ⊎_elim (λ (w : 10 ≤ n). rw (decimal_more n w, length-append) (omega arith))
    (λ (w : n < 10). rw (decimal_one n w) (omega arith))
    (either 10 n)

leads : (turns n : ℕ) → n < turns → 0 < n → get_or (decimal_of n) 0 0 ≡ 48 → ⊥
leads zero n h p = absurd (not-suc-le-zero h)
leads (suc turns) n h p =
    ⊎_elim
    (λ (w : 10 ≤ n).
    rw (decimal_more n w, get_or-append (decimal_of (n / 10)) (last_digit n) 0 0 (some-digit (n / 10))) (leads turns (n / 10) (omega arith) (omega arith)))
    (λ (w : n < 10). rw (decimal_one n w) (λ (e : 48 + n % 10 ≡ 48). omega arith))
    (either 10 n)

pub no_leading_zero : (n : ℕ) → 0 < n → get_or (decimal_of n) 0 0 ≡ 48 → ⊥
no_leading_zero n = leads (suc n) n (omega arith)
