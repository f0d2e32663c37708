-- The digits of a number that lies in two halves are those of its upper half and then those of its lower one.
use Prim.Native.Nat.{ℕ, zero, suc, ◌+◌, ◌*◌, ◌/◌, ◌%◌, ◌^◌, ◌<◌}
use mathlib.Core.List.{[], ◌∷◌, ◌++◌, append_assoc, append-nil}
use mathlib.Core.Path.{◌≡◌, sym}
use native.Mathlib.Nat.{add-zero, add-suc, mul_left_comm}
use native.Mathlib.Omega.{arith}
use Rattle.text.specs.Digits.{hex_digit, hex_of}

-- what so many digits hold
unfoldable reach : ℕ → ℕ
reach zero = 1
reach (suc b) = 16 * reach b

halves : (a b high low : ℕ) → low < reach b → hex_of (a + b) (high * reach b + low) ≡ hex_of a high ++ hex_of b low
unfolding reach hex_of
halves a zero high low h =
    let none : high * 1 + low ≡ high = omega arith in
    rw (add-zero, none) (sym (append-nil (hex_of a high)))
halves a (suc b) high low h =
    let fits : low / 16 < reach b = omega arith in
    let above : (16 * (high * reach b) + low) / 16 ≡ high * reach b + low / 16 = omega arith in
    let last : (16 * (high * reach b) + low) % 16 ≡ low % 16 = omega arith in
    rw (add-suc, mul_left_comm, above, last, halves a b high (low / 16) fits) (append_assoc (hex_of a high) (hex_of b (low / 16)) (hex_digit (low % 16) ∷ []))

pub wide : (high low : ℕ) → low < 2 ^ 64 → hex_of 32 (high * 2 ^ 64 + low) ≡ hex_of 16 high ++ hex_of 16 low
unfolding reach
wide high low h = halves 16 16 high low h
