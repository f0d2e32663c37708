-- The clock change and the delay by the card clock, as plans.
use Rattle.std.specs.Prelude.{ℕ, ◌*◌, ◌^◌, Bool, true, cond, eqb, ltb, Result, Ok, Err}
use Rattle.types.specs.declared.clock.Clock.{Clock}
use Rattle.types.specs.declared.error.Error.{Error}
use Rattle.types.specs.declared.error.Error.TheVariants.{BadClock}
use Rattle.types.specs.Leaf.{rounded_up}
use Rattle.tape.specs.Plan.{Nothing, Plan, ◌then◌, fail}
use Rattle.tape.specs.Rows.{CLKCR, DELAY, clkcr_of}
use Rattle.tape.specs.Steps.{row, wait_idle}

unfoldable pub configure_clock : ℕ → Clock → Bool → Bool → Plan Nothing
configure_clock limit clock wide on = wait_idle limit true then λ _. row CLKCR (clkcr_of clock wide on)

-- source/clock rounded up, times the cycles
abbrev pub spins_of : ℕ → ℕ → ℕ → ℕ
spins_of source clock cycles = rounded_up source clock * cycles

-- The Rust divides by the clock whatever it is. A clock of 0 and a count over 32 bits do not come up where the clock is one
-- that `clock_setting` gave for a source from 2 to 102,800,000; here they give 17.
unfoldable pub clock_delay : ℕ → ℕ → ℕ → Plan Nothing
clock_delay source clock cycles =
    cond (eqb clock 0) (fail BadClock)
    (cond (ltb (spins_of source clock cycles) (2 ^ 32)) (row DELAY (spins_of source clock cycles)) (fail BadClock))

-- the row of a delay, or its refusal
unfoldable pub delayed : Result ℕ Error → Plan Nothing
delayed (Ok n) = row DELAY n
delayed (Err e) = fail e
