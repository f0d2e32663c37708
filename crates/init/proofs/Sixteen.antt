-- The first sixteen of some words, and their bytes.
use Prim.Native.Nat.{ℕ, zero, suc, ◌*◌, ◌/◌, ◌%◌, ◌^◌, ◌<◌}
use mathlib.Core.List.{List, [], ◌∷◌}
use mathlib.Core.Path.{◌≡◌, refl, ap, sym, ◌∙◌}
use native.Mathlib.Nat.{div-one, zero-add, zero-div}
use native.Mathlib.Omega.{arith}
use lib.Dec.{lit<}
use lib.ListN.{get_or}
use Rattle.types.proofs.Counted.{get_d_counted}
use Rattle.types.specs.Words.{bytes_of}
use Rattle.init.specs.Initialise.{offered, switched}
use Rattle.init.specs.Lent.{sixteen_of}

-- byte k of words is a byte of word k / 4
byte : ℕ → ℕ → ℕ
byte w k = w / 2 ^ (8 * k) % 256

byte_at : (ws : List ℕ) (k : ℕ) → get_or (bytes_of ws) k 0 ≡ byte (get_or ws (k / 4) 0) (k % 4)
unfolding bytes_of byte
byte_at [] k = rw zero-div
byte_at (w ∷ ws) zero = rw div-one
byte_at (w ∷ ws) (suc zero) = refl
byte_at (w ∷ ws) (suc (suc zero)) = refl
byte_at (w ∷ ws) (suc (suc (suc zero))) = refl
byte_at (w ∷ ws) (suc (suc (suc (suc k)))) =
    let word : suc (suc (suc (suc k))) / 4 ≡ suc (k / 4) = omega arith in
    let place : suc (suc (suc (suc k))) % 4 ≡ k % 4 = omega arith in
    rw (word, place) (byte_at ws k)

-- the first sixteen words have the same words and bytes
get_d_sixteen : (ws : List ℕ) (k : ℕ) → k < 16 → get_or (sixteen_of ws) k 0 ≡ get_or ws k 0
unfolding sixteen_of
get_d_sixteen ws k h = get_d_counted (λ n. get_or ws n 0) 0 16 k 0 h ∙ ap (λ (n : ℕ). get_or ws n 0) (zero-add k)

byte_sixteen : (ws : List ℕ) (k : ℕ) → k < 64 → get_or (bytes_of (sixteen_of ws)) k 0 ≡ get_or (bytes_of ws) k 0
byte_sixteen ws k h =
    byte_at (sixteen_of ws) k ∙ ap (λ (w : ℕ). byte w (k % 4)) (get_d_sixteen ws (k / 4) (omega arith)) ∙ sym (byte_at ws k)

pub offered_sixteen : (ws : List ℕ) → offered (sixteen_of ws) ≡ offered ws
offered_sixteen ws = rw (byte_sixteen ws 13 (lit< tt), byte_sixteen ws 29 (lit< tt))

pub switched_sixteen : (ws : List ℕ) → switched (sixteen_of ws) ≡ switched ws
switched_sixteen ws = rw (byte_sixteen ws 16 (lit< tt))
