-- Demand 2: without bypass, for a nonzero source and a request of 1 to 80,000,000 Hz, the answer's divisor is the least
-- from 2 to 257 with source at most divisor times request, and it is refused exactly if there is none.
use Rattle.std.specs.Prelude.{Ok, Err}
use Prim.Native.Nat.{ℕ, ◌+◌, ◌*◌, ◌-◌, ◌/◌, ◌<◌, ◌≤◌}
use mathlib.Core.Bool.{Bool, true, false, cond}
use mathlib.Core.Path.{◌≡◌, refl}
use native.Mathlib.Nat.{div-lt_iff_lt-mul, div-add-mod', mod-lt, mul-le-mul_right, le_trans, add-mul, le-max_left, le-max_right, max-le, le_antisymm}
use native.Mathlib.Omega.{arith, not-le}
use lib.Dec.{ltb}
use borrow.Author.Tests.{ne_eqb, le-ltb, ltb-true, ltb-false}
use Rattle.types.specs.declared.clock.Clock.{Clock}
use Rattle.types.specs.declared.error.Error.{Error}
use Rattle.types.specs.declared.error.Error.TheVariants.{BadClock}
use Rattle.types.specs.Least.{Enough, Least}
use Rattle.types.specs.Leaf.{rounded_up, divisor_of, clock_of}

module _ (source requested : ℕ) (nonzero : 1 ≤ source) (low : 1 ≤ requested) (high : requested ≤ 80_000_000) where
  -- the quotient rounded up is enough
  up_slow : source ≤ rounded_up source requested * requested
  up_slow = omega (arith, div-add-mod' (source + (requested - 1)) requested, mod-lt (source + (requested - 1)) low)

  -- and whatever is enough is no less
  up_least : (e : ℕ) → source ≤ e * requested → rounded_up source requested ≤ e
  up_least e h =
      let short : source + (requested - 1) < (e + 1) * requested = rw add-mul (omega arith) in
      omega (arith, (div-lt_iff_lt-mul {x = source + (requested - 1)} {y = e + 1} low).1 short)

  at_least_2 : 2 ≤ divisor_of source requested
  unfolding divisor_of
  at_least_2 = le-max_left 2 _

  slow-enough : source ≤ divisor_of source requested * requested
  unfolding divisor_of
  slow-enough = le_trans up_slow (mul-le-mul_right requested (le-max_right 2 (rounded_up source requested)))

  no_less : (e : ℕ) → 2 ≤ e → source ≤ e * requested → divisor_of source requested ≤ e
  unfolding divisor_of
  no_less e h slow = max-le h (up_least e slow)

  -- so the least one that is enough is the divisor
  pub found : (d : ℕ) → Least source requested d → d ≡ divisor_of source requested
  found d h =
      let less = no_less d h.enough.from2 h.enough.slow in
      le_antisymm (h.least _ (record { from2 = at_least_2; to257 = le_trans less h.enough.to257; slow = slow-enough })) less

  -- and where none is, it is over 257
  pub over : ((d : ℕ) → Enough source requested d → ⊥) → 257 < divisor_of source requested
  over none = not-le _ _ (λ h. none _ (record { from2 = at_least_2; to257 = h; slow = slow-enough }))

  -- what the definition comes to on this domain
  comes-to : clock_of source requested false
      ≡ cond (ltb 257 (divisor_of source requested)) (Err BadClock)
      (Ok (record { divisor = divisor_of source requested - 2; bypass = false; frequency = record { 0 = source / divisor_of source requested } }))
  unfolding clock_of
  comes-to = rw (ne_eqb source 0 (λ e. omega arith), ne_eqb requested 0 (λ e. omega arith), le-ltb 80_000_000 requested high)

  -- an answer's divisor is the least
  pub set-least : (c : Clock) → clock_of source requested false ≡ Ok c → Least source requested (c.divisor + 2)
  set-least c e = by (ltb 257 (divisor_of source requested)) refl
    where
      by : (b : Bool) → ltb 257 (divisor_of source requested) ≡ b → Least source requested (c.divisor + 2)
      by true t =
          let none = rw t at comes-to in
          let z : ◌≡◌ {A = ℕ} 0 1 = cc in
          absurd (omega arith)
      by false t =
          let set = rw t at comes-to in
          let field : c.divisor ≡ divisor_of source requested - 2 = cc in
          let d : c.divisor + 2 ≡ divisor_of source requested = omega (arith, at_least_2) in
          rw d
          (record {
            enough = record { from2 = at_least_2; to257 = ltb-false _ _ t; slow = slow-enough };
            least = λ e h. no_less e h.from2 h.slow;
          })

  -- it is refused only if there is none
  pub refused_none : (x : Error) → clock_of source requested false ≡ Err x → (d : ℕ) → Enough source requested d → ⊥
  refused_none x e d h = by (ltb 257 (divisor_of source requested)) refl
    where
      by : (b : Bool) → ltb 257 (divisor_of source requested) ≡ b → ⊥
      by true t = omega (arith, ltb-true 257 (divisor_of source requested) t, no_less d h.from2 h.slow)
      by false t =
          let set = rw t at comes-to in
          let z : ◌≡◌ {A = ℕ} 0 1 = cc in
          omega arith

  -- and always if there is none
  pub none-refused : ((d : ℕ) → Enough source requested d → ⊥) → clock_of source requested false ≡ Err BadClock
  none-refused none = by (ltb 257 (divisor_of source requested)) refl
    where
      by : (b : Bool) → ltb 257 (divisor_of source requested) ≡ b → clock_of source requested false ≡ Err BadClock
      by true t = rw (comes-to, t)
      by false t =
          absurd (none (divisor_of source requested) (record { from2 = at_least_2; to257 = ltb-false _ _ t; slow = slow-enough }))
