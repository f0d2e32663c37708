-- The settings of a host.
use Rattle.std.specs.Prelude.{ℕ, false, cond, ◌||◌, eqb, ltb, Result, Ok, Err}
use Rattle.types.specs.declared.error.Error.{Error}
use Rattle.types.specs.declared.config.Config.{Config}
use Rattle.types.specs.declared.error.Error.TheVariants.{BadClock, InvalidConfig}

-- where nothing else is asked for (the Rust's Config::default)
abbrev pub defaults : Config
defaults =
    record {
      data_transfer_timeout = 5_000_000;
      software_timeout_ms = 1_000;
      poll_limit = 1_000_000;
      card_ready_attempts = 1_000;
      allow_clock_bypass = false;
    }

-- Order at making: any of the four numeric settings 0 gives 18; source 0, source 1 or source over 102,800,000 gives 17
unfoldable pub made_of : ℕ → Config → Result (Unit {0}) Error
made_of source config =
    cond
    (eqb config.poll_limit 0 || eqb config.card_ready_attempts 0 || eqb config.data_transfer_timeout 0 || eqb config.software_timeout_ms 0)
    (Err InvalidConfig)
    (cond (ltb source 2 || ltb 102_800_000 source) (Err BadClock) (Ok tt))
