use Prim.Native.Nat.{ℕ, ◌+◌, ◌*◌, ◌-◌, ◌/◌, ◌^◌, ◌<◌, ◌≤◌}
use native.Mathlib.Omega.{arith}
use native.Mathlib.Nat.{div-lt_iff_lt-mul, lt_of_le_of_lt, mul-le-mul}
use lib.Dec.{lit<}
use Rattle.bus.proofs.clock.spins.Goals as goal

-- a quotient of 32-bit numbers, rounded up, times another
product : (a b k : ℕ) → a < 2 ^ 32 → 1 ≤ b → k < 2 ^ 32 → (a + (b - 1)) / b * k < 2 ^ 64
product a b k ha hb hk =
    let quotient : (a + (b - 1)) / b < 2 ^ 32 = (div-lt_iff_lt-mul hb).1 (omega arith) in
    lt_of_le_of_lt (mul-le-mul {n₂ = 0xffff_ffff} {m₂ = 0xffff_ffff} (omega arith) (omega arith)) (lit< tt)

pub overflow_mul-result : goal.overflow_mul-result
overflow_mul-result c = let a = c.args in
    record { fits = product a.source.0 a.clock.0 a.cycles (omega arith) (omega arith) (omega arith) }
