-- A delay by a clock that `clock_setting` gave for a source of 2 Hz or more is one row: the clock is above 0, and the count
-- small.
use Rattle.std.specs.Prelude.{Result, Ok, Err}
use Prim.Native.Nat.{ℕ, ◌+◌, ◌*◌, ◌-◌, ◌/◌, ◌^◌, ◌<◌, ◌≤◌}
use mathlib.Core.Path.{◌≡◌, refl, ap}
use mathlib.Core.Bool.{Bool, true, false, cond, ◌&&◌}
use native.Mathlib.Omega.{arith}
use native.Mathlib.Nat.{div-lt_iff_lt-mul, add-mul, mul_comm, mul_assoc, mul-le-mul, mul-le-mul_left, div-one, le_trans}
use native.Mathlib.Decide.{dec_le}
use lib.Dec.{eqb, ltb, leb}
use borrow.Author.Tests.{ltb-false, eqb-false, lt-ltb, ne_eqb}
use Rattle.types.specs.declared.clock.Clock.{Clock}
use Rattle.types.specs.declared.error.Error.{Error}
use Rattle.types.specs.declared.error.Error.TheVariants.{BadClock}
use Rattle.types.specs.Leaf.{rounded_up, divisor_of, clock_of}
use Rattle.tape.specs.Rows.{DELAY}
use Rattle.tape.specs.Steps.{row}
use Rattle.bus.specs.Clock.{spins_of, clock_delay}

-- a quotient of s by d, rounded down, goes into s at most 2 * d times, rounded up
few : (s d q : ℕ) → 1 ≤ d → s / d ≡ q → 1 ≤ q → rounded_up s q ≤ 2 * d
few s d q hd e hq =
    let below : s < (q + 1) * d = (div-lt_iff_lt-mul {k = d} {x = s} {y = q + 1} hd).0 (omega (arith, e)) in
    let above : s + (q - 1) < (2 * d + 1) * q =
    omega (arith, add-mul q 1 d, mul_comm q d, add-mul (2 * d) 1 q, mul_assoc 2 d q, mul-le-mul_left d hq) in
    let fewer : (s + (q - 1)) / q < 2 * d + 1 = (div-lt_iff_lt-mul {k = q} {x = s + (q - 1)} {y = 2 * d + 1} hq).1 above in
    omega arith

-- it is above 0 where d is at most s
some-clock : (s d : ℕ) → 1 ≤ d → d ≤ s → 1 ≤ s / d
some-clock s d hd h = by (dec_le 1 (s / d))
  where
    by : Dec (1 ≤ s / d) → 1 ≤ s / d
    by (yes some) = some
    by (no none) =
        let under : s < 1 * d = (div-lt_iff_lt-mul {k = d} {x = s} {y = 1} hd).0 (omega arith) in
        absurd (omega arith)

-- a source goes into itself divided by a request, rounded up, no more often than it is large
divisor_most : (s r : ℕ) → 1 ≤ r → 2 ≤ s → divisor_of s r ≤ s
unfolding divisor_of
divisor_most s r hr hs =
    let enough : s + (r - 1) < (s + 1) * r = omega (arith, add-mul s 1 r, mul-le-mul_left s hr) in
    let up : (s + (r - 1)) / r < s + 1 = (div-lt_iff_lt-mul {k = r} {x = s + (r - 1)} {y = s + 1} hr).1 enough in
    omega arith

divisor_least : (s r : ℕ) → 2 ≤ divisor_of s r
unfolding divisor_of
divisor_least s r = omega arith

-- a clock of this source: above 0, and not much slower
pub record Fair (source clock : ℕ) : Type 0 where
  pub runs : 1 ≤ clock
  pub near : rounded_up source clock ≤ 514

-- an answer that is no refusal
unrefused : (b : Bool) (e : Error) (x : Result Clock Error) (k : Clock) → cond b (Err e) x ≡ Ok k → (b ≡ false) × (x ≡ Ok k)
unrefused true e x k h = absurd (let z : ◌≡◌ {A = ℕ} 0 1 = cc in omega arith)
unrefused false e x k h = (refl, h)

frequency_of : Result Clock Error → ℕ
frequency_of (Ok k) = k.frequency.0
frequency_of (Err e) = 0

pub fair : (source requested : ℕ) (bypass : Bool) (k : Clock) → 2 ≤ source → clock_of source requested bypass ≡ Ok k
    → Fair source k.frequency.0
unfolding clock_of frequency_of
fair source requested bypass k h e =
    let source-set = unrefused (eqb source 0) _ _ k e in
    let requested-set = unrefused (eqb requested 0) _ _ k source-set.1 in
    let slow = unrefused (ltb 80_000_000 requested) _ _ k requested-set.1 in
    by (bypass && leb source requested) (omega (arith, eqb-false requested 0 requested-set.0)) slow.1
  where
    d : ℕ
    d = divisor_of source requested

    divided : Clock
    divided = record { divisor = d - 2; bypass = false; frequency = record { 0 = source / d } }

    by : (b : Bool) → 1 ≤ requested
        → cond b (Ok (record { divisor = 0; bypass = true; frequency = record { 0 = source } }))
        (cond (ltb 257 d) (Err BadClock) (Ok divided))
        ≡ Ok k
        → Fair source k.frequency.0
    by true hr e =
        rw (← ap frequency_of e) (record { runs = omega arith; near = le_trans (few source 1 source (omega arith) (div-one source) (omega arith)) (omega arith) })
    by false hr e =
        let in-range = unrefused (ltb 257 d) _ _ k e in
        let most : d ≤ 257 = ltb-false 257 d in-range.0 in
        let least : 2 ≤ d = divisor_least source requested in
        let clock : 1 ≤ source / d = some-clock source d (omega arith) (divisor_most source requested hr h) in
        rw (← ap frequency_of in-range.1)
        (record { runs = clock; near = le_trans (few source d (source / d) (omega arith) refl clock) (omega arith) })

-- So at most 80 cycles of it are one row.
pub delay-is-a-row : (source cycles clock : ℕ) → Fair source clock → cycles ≤ 80
    → clock_delay source clock cycles ≡ row DELAY (spins_of source clock cycles)
unfolding clock_delay
delay-is-a-row source cycles clock f h =
    let count : spins_of source clock cycles ≤ 514 * 80 = mul-le-mul f.near h in
    rw (ne_eqb clock 0 (λ e. omega (arith, f.runs)), lt-ltb (spins_of source clock cycles) (2 ^ 32) (omega arith))
