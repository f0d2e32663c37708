-- A field of a number that lies in two halves: in the upper one, or across the two. (One in the lower half is plain
-- arithmetic.) The halves meet at bit k + b, and the laws hold for every place and width.
use Prim.Native.Nat.{ℕ, ◌+◌, ◌*◌, ◌/◌, ◌%◌, ◌^◌, ◌<◌}
use mathlib.Core.Path.{◌≡◌, sym, ap, ◌∙◌}
use native.Mathlib.Nat.{add_comm, mul_assoc, mod-lt, add-mul-div_right}
use lib.Arith.{digits_lt}
use lib.Pow.{pow_pos, pow-add, shr-shr, shr_lt, high, low, mod-pow-add}

-- w bits from bit m + k on, where the halves meet at bit m
pub upper : (hi m k w : ℕ) {lo : ℕ} → lo < 2 ^ m → (hi * 2 ^ m + lo) / 2 ^ (m + k) % 2 ^ w ≡ hi / 2 ^ k % 2 ^ w
upper hi m k w {lo} h =
    ap (λ (x : ℕ). x % 2 ^ w) (sym (shr-shr (hi * 2 ^ m + lo) m k) ∙ ap (λ (x : ℕ). x / 2 ^ k) (high hi m h))

-- j + k bits from bit b on, of which k lie in the lower half
pub across : (hi j k b : ℕ) {lo : ℕ} → lo < 2 ^ (k + b)
    → (hi * 2 ^ (k + b) + lo) / 2 ^ b % 2 ^ (j + k) ≡ hi % 2 ^ j * 2 ^ k + lo / 2 ^ b
across hi j k b {lo} h = ap (λ (x : ℕ). x % 2 ^ (j + k)) shifted ∙ mod-pow-add (hi * 2 ^ k + lo / 2 ^ b) j k ∙ parts
  where
    fits : lo / 2 ^ b < 2 ^ k
    fits = shr_lt k b h

    shifted : (hi * 2 ^ (k + b) + lo) / 2 ^ b ≡ hi * 2 ^ k + lo / 2 ^ b
    shifted =
        rw (pow-add 2 k b, ← mul_assoc, add_comm (hi * 2 ^ k * 2 ^ b) lo)
        (add-mul-div_right lo (hi * 2 ^ k) (pow_pos b) ∙ add_comm (lo / 2 ^ b) (hi * 2 ^ k))

    parts : ((hi * 2 ^ k + lo / 2 ^ b) / 2 ^ k % 2 ^ j) * 2 ^ k + (hi * 2 ^ k + lo / 2 ^ b) % 2 ^ k ≡ hi % 2 ^ j * 2 ^ k + lo / 2 ^ b
    parts = rw (high hi k fits, low hi k fits)

-- and what is put together so fits j + k bits
pub across_lt : (hi j k b : ℕ) {lo : ℕ} → lo < 2 ^ (k + b) → hi % 2 ^ j * 2 ^ k + lo / 2 ^ b < 2 ^ (j + k)
across_lt hi j k b h = rw (pow-add 2 j k) (digits_lt (mod-lt hi (pow_pos j)) (shr_lt k b h))
