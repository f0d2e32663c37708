-- What a test by a mask says, bit by bit: the word has no bit of the mask exactly if, for every place k, where the mask has
-- bit k the word has not.
use Prim.Native.Nat.{ℕ, zero, suc, ◌+◌, ◌-◌, ◌/◌, ◌%◌, ◌^◌, ◌<◌}
use mathlib.Core.Bool.{true, false}
use mathlib.Core.Path.{◌≡◌, refl, ap, sym, ◌∙◌}
use native.Mathlib.Nat.{div-one, zero-div}
use native.Mathlib.Omega.{arith}
use lib.Arith.{bin_ind}
use lib.Bits.{bit_and, and_shr, and_mod, and_zero_l, and_zero_r}
use lib.Pow.{shr-shr}
use borrow.Author.Tests.{eq-eqb, ne_eqb, eqb-true, eqb-false}
use Rattle.types.specs.Bits.{bits, bit, clear}

-- the digit of n at place k
digit : ℕ → ℕ → ℕ
digit n k = n / 2 ^ k % 2

bit-digit : (n k : ℕ) → bits n k k ≡ digit n k
unfolding digit
bit-digit n k = let one : k + 1 - k ≡ 1 = omega arith in rw one

digit_lt : (n k : ℕ) → digit n k < 2
unfolding digit
digit_lt n k = omega arith

-- the digit of a conjunction is that of the digits
digit_and : (w m k : ℕ) → digit (bit_and w m) k ≡ bit_and (digit w k) (digit m k)
unfolding digit
digit_and w m k = ap (λ (x : ℕ). x % 2) (and_shr w m k) ∙ and_mod (w / 2 ^ k) (m / 2 ^ k) 1

-- a number whose every digit is 0 is 0
no_digit : (n : ℕ) → ((k : ℕ) → digit n k ≡ 0) → n ≡ 0
unfolding digit
no_digit =
    bin_ind (λ n. ((k : ℕ) → n / 2 ^ k % 2 ≡ 0) → n ≡ 0) (λ h. refl)
    (λ n ih h.
    let half : n / 2 ≡ 0 = ih (λ k. rw (shr-shr n 1 k) (h (1 + k))) in
    let odd : n % 2 ≡ 0 = rw div-one at (h 0) in
    omega arith)

zero-digit : (k : ℕ) → digit 0 k ≡ 0
unfolding digit
zero-digit k = rw zero-div

digit-zero : {a : ℕ} → (a ≡ 1 → ⊥) → a < 2 → a ≡ 0
digit-zero {a = zero} h lt = refl
digit-zero {a = suc zero} h lt = absurd (h refl)
digit-zero {a = suc (suc a)} h lt = absurd (omega arith)

-- of two digits: the other is 0 where one is 1 and their conjunction is 0
other-zero : (a b : ℕ) → a < 2 → bit_and a b ≡ 0 → b ≡ 1 → a ≡ 0
other-zero zero b ha e one = refl
other-zero (suc zero) b ha e one = absurd (eqb-false 1 0 refl (rw one at e))
other-zero (suc (suc a)) b ha e one = absurd (omega arith)

-- and the conjunction is 0 if one is 0 wherever the other is 1
either-zero : (a b : ℕ) → b < 2 → (b ≡ 1 → a ≡ 0) → bit_and a b ≡ 0
either-zero a zero hb h = and_zero_r a
either-zero a (suc zero) hb h = rw (h refl) (and_zero_l 1)
either-zero a (suc (suc b)) hb h = absurd (omega arith)

pub clear-says : (mask word : ℕ) → clear mask word ≡ true → (k : ℕ) → bit mask k ≡ true → bit word k ≡ false
clear-says mask word e k h =
    let one : digit mask k ≡ 1 = sym (bit-digit mask k) ∙ eqb-true (bits mask k k) 1 h in
    let none : bit_and (digit word k) (digit mask k) ≡ 0 =
    sym (digit_and word mask k) ∙ ap (λ (n : ℕ). digit n k) (eqb-true (bit_and word mask) 0 e) ∙ zero-digit k in
    let off = bit-digit word k ∙ other-zero (digit word k) (digit mask k) (digit_lt word k) none one in
    ne_eqb (bits word k k) 1 (λ on. omega arith)

pub clear_if : (mask word : ℕ) → ((k : ℕ) → bit mask k ≡ true → bit word k ≡ false) → clear mask word ≡ true
clear_if mask word h = eq-eqb (bit_and word mask) 0 (no_digit (bit_and word mask) (λ k. digit_and word mask k ∙ off k))
  where
    off : (k : ℕ) → bit_and (digit word k) (digit mask k) ≡ 0
    off k =
        either-zero (digit word k) (digit mask k) (digit_lt mask k)
        (λ one.
        let unset = eqb-false (bits word k k) 1 (h k (eq-eqb (bits mask k k) 1 (bit-digit mask k ∙ one))) in
        digit-zero (λ set. unset (bit-digit word k ∙ set)) (digit_lt word k))
