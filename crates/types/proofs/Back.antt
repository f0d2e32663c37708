-- Bytes as words: how many, each by itself; and words to bytes and back, either way.
use Prim.Native.Nat.{ℕ, zero, suc, ◌+◌, ◌*◌, ◌/◌, ◌%◌, ◌^◌, ◌≤◌, ◌<◌}
use mathlib.Core.List.{List, [], ◌∷◌}
use mathlib.Core.Path.{◌≡◌, refl, ap, sym}
use native.Mathlib.Nat.{div-div-eq-div-mul, div-add-mod', mod-eq_of_lt}
use native.Mathlib.Omega.{arith}
use lib.ListN.{length, get_or}
use Rattle.types.specs.Words.{bytes_of, word4, words_of}

pub length-words : (bytes : List ℕ) → length (words_of bytes) ≡ length bytes / 4
unfolding words_of
length-words [] = refl
length-words (a ∷ []) = refl
length-words (a ∷ b ∷ []) = refl
length-words (a ∷ b ∷ c ∷ []) = refl
length-words (a ∷ b ∷ c ∷ d ∷ bytes) = omega (arith, length-words bytes)

-- word i, of its four bytes
abbrev pub word_at : List ℕ → ℕ → ℕ
word_at bytes at = word4 (get_or bytes at 0) (get_or bytes (at + 1) 0) (get_or bytes (at + 2) 0) (get_or bytes (at + 3) 0)

pub word-is : (i : ℕ) (bytes : List ℕ) → 4 * i + 4 ≤ length bytes → get_or (words_of bytes) i 0 ≡ word_at bytes (4 * i)
unfolding words_of
word-is i [] h = absurd (omega arith)
word-is i (a ∷ []) h = absurd (omega arith)
word-is i (a ∷ b ∷ []) h = absurd (omega arith)
word-is i (a ∷ b ∷ c ∷ []) h = absurd (omega arith)
word-is zero (a ∷ b ∷ c ∷ d ∷ bytes) h = refl
word-is (suc i) (a ∷ b ∷ c ∷ d ∷ bytes) h =
    let first : 4 * suc i ≡ suc (suc (suc (suc (4 * i)))) = omega arith in
    let past : (m : ℕ) → suc (suc (suc (suc (4 * i)))) + m ≡ suc (suc (suc (suc (4 * i + m)))) = λ m. omega arith in
    rw (first, past 1, past 2, past 3) (word-is i bytes (omega arith))

parts : (w r₀ q₁ r₁ q₂ r₂ q₃ : ℕ) → q₁ * 256 + r₀ ≡ w → q₂ * 256 + r₁ ≡ q₁ → q₃ * 256 + r₂ ≡ q₂ → word4 r₀ r₁ r₂ q₃ ≡ w
parts w r₀ q₁ r₁ q₂ r₂ q₃ e₀ e₁ e₂ = omega arith

word_back : (w : ℕ) → w < 2 ^ 32 → word4 (w % 256) (w / 2 ^ 8 % 256) (w / 2 ^ 16 % 256) (w / 2 ^ 24 % 256) ≡ w
word_back w h =
    let two : w / 2 ^ 16 ≡ w / 2 ^ 8 / 256 = sym (div-div-eq-div-mul w (2 ^ 8) 256) in
    let three : w / 2 ^ 24 ≡ w / 2 ^ 16 / 256 = sym (div-div-eq-div-mul w (2 ^ 16) 256) in
    let top : w / 2 ^ 24 % 256 ≡ w / 2 ^ 24 = mod-eq_of_lt (omega arith) in
    rw top
    (parts w (w % 256) (w / 2 ^ 8) (w / 2 ^ 8 % 256) (w / 2 ^ 16) (w / 2 ^ 16 % 256) (w / 2 ^ 24) (div-add-mod' w 256)
    (rw two (div-add-mod' (w / 2 ^ 8) 256)) (rw three (div-add-mod' (w / 2 ^ 16) 256)))

pub words_back : (ws : List ℕ) → ((i : ℕ) → get_or ws i 0 < 2 ^ 32) → words_of (bytes_of ws) ≡ ws
unfolding words_of bytes_of
words_back [] h = refl
words_back (w ∷ ws) h = rw (word_back w (h 0)) (ap (λ (l : List ℕ). w ∷ l) (words_back ws (λ i. h (suc i))))

module _ (a b c d : ℕ) (ha : a < 256) (hb : b < 256) (hc : c < 256) (hd : d < 256) where
  byte_0 : word4 a b c d % 256 ≡ a
  byte_0 = omega arith

  byte_1 : word4 a b c d / 2 ^ 8 % 256 ≡ b
  byte_1 = omega arith

  byte_2 : word4 a b c d / 2 ^ 16 % 256 ≡ c
  byte_2 = omega arith

  byte_3 : word4 a b c d / 2 ^ 24 % 256 ≡ d
  byte_3 = omega arith

pub bytes_back : (bytes : List ℕ) → ((i : ℕ) → get_or bytes i 0 < 256) → length bytes % 4 ≡ 0 → bytes_of (words_of bytes) ≡ bytes
unfolding words_of bytes_of
bytes_back [] h e = refl
bytes_back (a ∷ []) h e = absurd (omega arith)
bytes_back (a ∷ b ∷ []) h e = absurd (omega arith)
bytes_back (a ∷ b ∷ c ∷ []) h e = absurd (omega arith)
bytes_back (a ∷ b ∷ c ∷ d ∷ bytes) h e =
    rw (byte_0 a b c d (h 0) (h 1) (h 2) (h 3), byte_1 a b c d (h 0) (h 1) (h 2) (h 3), byte_2 a b c d (h 0) (h 1) (h 2) (h 3), byte_3 a b c d (h 0) (h 1) (h 2) (h 3))
    (ap (λ (l : List ℕ). a ∷ b ∷ c ∷ d ∷ l) (bytes_back bytes (λ i. h (suc (suc (suc (suc i))))) (omega arith)))

-- words of bytes fit
pub words-fit : (bytes : List ℕ) → ((i : ℕ) → get_or bytes i 0 < 256) → (i : ℕ) → get_or (words_of bytes) i 0 < 2 ^ 32
unfolding words_of
words-fit [] h i = omega arith
words-fit (a ∷ []) h i = omega arith
words-fit (a ∷ b ∷ []) h i = omega arith
words-fit (a ∷ b ∷ c ∷ []) h i = omega arith
words-fit (a ∷ b ∷ c ∷ d ∷ bytes) h zero = omega (arith, h 0, h 1, h 2, h 3)
words-fit (a ∷ b ∷ c ∷ d ∷ bytes) h (suc i) = words-fit bytes (λ j. h (suc (suc (suc (suc j))))) i
