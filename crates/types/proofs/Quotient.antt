-- Long division in base 2 with one number that is doubled: after i of its steps, what is left to divide stands above 2^i, and
-- the i bits of the quotient below it.
use Prim.Native.Nat.{ℕ, suc, ◌+◌, ◌*◌, ◌-◌, ◌/◌, ◌%◌, ◌^◌, ◌<◌, ◌≤◌}
use mathlib.Core.Path.{◌≡◌, sym, ◌∙◌, ap}
use native.Mathlib.Nat.{pow-suc, mul_assoc, mul-one, add-mul, zero-mul, suc-mul, mul-le-mul_right, lt_of_mul-lt-mul_right, le_of_suc-le-suc, div-eq_of_lt-le}
use native.Mathlib.Numerals.{add-one}
use native.Mathlib.Omega.{arith}
use lib.Pow.{pow-add, low}

-- k steps are left
pub record Divided (n d i k both : ℕ) : Type 0 where
  pub rest : ℕ
  pub times : ℕ
  pub is : both ≡ rest * 2 ^ i + times
  pub whole : n ≡ times * (d * 2 ^ k) + rest
  pub small : rest < d * 2 ^ k
  pub few : times < 2 ^ i

-- what is left and the quotient's bits together stay below the divisor at the top
pub below : (w n d i k both : ℕ) → k + i ≡ w → Divided n d i k both → both < d * 2 ^ w
below w n d i k both all at =
    let top : d * 2 ^ w ≡ d * 2 ^ k * 2 ^ i = rw (← all, pow-add 2 k i) (sym (mul_assoc d (2 ^ k) (2 ^ i))) in
    let one_more : suc at.rest * 2 ^ i ≡ at.rest * 2 ^ i + 2 ^ i = suc-mul at.rest (2 ^ i) in
    omega (arith, at.is, at.few, mul-le-mul_right (2 ^ i) at.small)

-- one step of w: what is doubled is held to the divisor at the top
module _ (w n d i k both : ℕ) (all : k + suc i ≡ w) (at : Divided n d i (suc k) both) where
  abbrev place : ℕ
  place = d * 2 ^ k

  abbrev width : ℕ
  width = 2 ^ suc i

  wider : width ≡ 2 ^ i * 2
  wider = pow-suc 2 i

  twice : d * 2 ^ suc k ≡ place * 2
  twice = rw (pow-suc 2 k) (sym (mul_assoc d (2 ^ k) 2))

  top : d * 2 ^ w ≡ place * width
  top = rw (← all, pow-add 2 k (suc i)) (sym (mul_assoc d (2 ^ k) (2 ^ suc i)))

  doubled : both + both ≡ at.rest * width + (at.times + at.times)
  doubled =
      let wide : at.rest * width ≡ at.rest * 2 ^ i * 2 = rw wider (sym (mul_assoc at.rest (2 ^ i) 2)) in
      omega (arith, at.is)

  halved : n ≡ at.times * place * 2 + at.rest
  halved = at.whole ∙ ap (λ (x : ℕ). x + at.rest) (rw twice (sym (mul_assoc at.times place 2)))

  even : n ≡ (at.times + at.times) * place + at.rest
  even = omega (arith, halved, add-mul at.times at.times place)

  -- it fits at the top where it fits into what is left, and nowhere else
  fits : d * 2 ^ w ≤ both + both → place ≤ at.rest
  fits h =
      let one_more : suc at.rest * width ≡ at.rest * width + width = suc-mul at.rest width in
      le_of_suc-le-suc (lt_of_mul-lt-mul_right width (omega (arith, top, doubled, wider, at.few)))

  short : both + both < d * 2 ^ w → at.rest < place
  short h = lt_of_mul-lt-mul_right width (omega (arith, top, doubled))

  taken : d * 2 ^ w ≤ both + both → Divided n d (suc i) k (both + both - d * 2 ^ w + 1)
  taken h =
      let left = at.rest - place in
      let split : left + place ≡ at.rest = omega (arith, fits h) in
      let rest-width : at.rest * width ≡ left * width + place * width = ap (λ (x : ℕ). x * width) (sym split) ∙ add-mul left place width in
      let odd : suc (at.times + at.times) * place ≡ (at.times + at.times) * place + place = suc-mul (at.times + at.times) place in
      record {
        rest = left;
        times = suc (at.times + at.times);
        is = omega (arith, top, doubled);
        whole = omega (arith, even);
        small = omega (arith, at.small, twice);
        few = omega (arith, at.few, wider);
      }

  kept : both + both < d * 2 ^ w → Divided n d (suc i) k (both + both)
  kept h =
      record {
        rest = at.rest;
        times = at.times + at.times;
        is = doubled;
        whole = even;
        small = short h;
        few = omega (arith, at.few, wider);
      }

-- the same with the steps counted down
module _ (w n d left both : ℕ) (some : 1 ≤ left) (most : left ≤ w) (at : Divided n d (w - left) left both) where
  this : Divided n d (w - left) (suc (left - 1)) both
  this = let e : suc (left - 1) ≡ left = omega arith in rw e at

  next : (b : ℕ) → Divided n d (suc (w - left)) (left - 1) b → Divided n d (w - (left - 1)) (left - 1) b
  next b h = let e : w - (left - 1) ≡ suc (w - left) = omega arith in rw e h

  pub step-taken : d * 2 ^ w ≤ both + both → Divided n d (w - (left - 1)) (left - 1) (both + both - d * 2 ^ w + 1)
  step-taken h = next _ (taken w n d (w - left) (left - 1) both (omega arith) this h)

  pub step_kept : both + both < d * 2 ^ w → Divided n d (w - (left - 1)) (left - 1) (both + both)
  step_kept h = next _ (kept w n d (w - left) (left - 1) both (omega arith) this h)

-- before the first step
pub begun : (w n d : ℕ) → n < d * 2 ^ w → Divided n d 0 w n
begun w n d h = record { rest = n; times = 0; is = omega arith; whole = omega (arith, zero-mul (d * 2 ^ w)); small = h; few = omega arith }

-- after the last: the low bits are the quotient
pub ended : (w n d both : ℕ) → Divided n d w 0 both → both % 2 ^ w ≡ n / d
ended w n d both at =
    let one_place : d * 2 ^ 0 ≡ d = mul-one d in
    let next : (at.times + 1) * d ≡ at.times * d + d = rw add-one (suc-mul at.times d) in
    let whole : n ≡ at.times * d + at.rest = at.whole ∙ ap (λ (x : ℕ). at.times * x + at.rest) one_place in
    let small : at.rest < d = rw one_place at at.small in
    rw (at.is, low at.rest w at.few) (sym (div-eq_of_lt-le d (omega arith) (omega arith)))
