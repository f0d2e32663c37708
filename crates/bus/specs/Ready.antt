-- The wait until the card is ready, as a plan (the Rust's `blocking_wait_ready`).
use Rattle.std.specs.Prelude.{ℕ, ◌*◌, ◌^◌, Bool, true, false, cond}
use Rattle.types.specs.declared.config.Config.{Config}
use Rattle.types.specs.Leaf.{rounded_up}
use Rattle.types.specs.Sd.{ready_of}
use Rattle.tape.specs.Plan.{Nothing, Plan, give, ◌then◌, until}
use Rattle.tape.specs.Rows.{DELAY}
use Rattle.tape.specs.Steps.{row}
use Rattle.bus.specs.declared.response.Response.TheVariants.{R1}
use Rattle.bus.specs.Command.{first_of, command}

-- a DELAY of source/1000 rounded up
unfoldable pub retry_delay : ℕ → Plan Nothing
retry_delay source = row DELAY (rounded_up source 1000)

-- CMD13
unfoldable pub read_status : ℕ → ℕ → Plan ℕ
read_status limit rca = command limit 13 (rca * 2 ^ 16) R1 then λ ws. give (first_of ws)

-- one attempt, and the delay where it failed
unfoldable pub try_ready : ℕ → ℕ → ℕ → Plan Bool
try_ready source limit rca =
    read_status limit rca
    then λ status. cond (ready_of status) (give true) (retry_delay source then λ _. give false)

unfoldable pub wait_ready : ℕ → Config → ℕ → Plan Nothing
wait_ready source config rca =
    until config.card_ready_attempts (λ ready. ready) (try_ready source config.poll_limit rca) then λ _. give tt
