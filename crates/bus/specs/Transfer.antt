-- The data phase, as a plan (the Rust's `start_data`, `data_complete` and `blocking_data`).
use Rattle.std.specs.Prelude.{ℕ, ◌*◌, ◌%◌, ◌^◌, Bool, true, false, cond, not, ◌||◌, List, [], eqb, Result, Ok, Err}
use Rattle.types.specs.declared.error.Error.{Error}
use Rattle.types.specs.declared.config.Config.{Config}
use Rattle.types.specs.declared.error.Error.TheVariants as E
use Rattle.types.specs.Bits.{clear}
use Rattle.types.specs.Leaf.{data_of}
use Rattle.tape.specs.declared.script.Reading.TheVariants as Reading
use Rattle.tape.specs.Plan.{Nothing, Plan, give, look, ◌then◌, guard, fail, ensure, until}
use Rattle.tape.specs.declared.progress.Halt.{Halt}
use Rattle.tape.specs.Run.{State, does, seen_as}
use Rattle.tape.specs.Rows.{DTIMER, DLEN, DCTRL, DCTRL2, dctrl_of}
use Rattle.tape.specs.Steps.{word, row, data_words, send_words, wait_idle, reset_controller, stop_data, set_clken}
use Rattle.bus.specs.declared.poll.Poll.{Poll}
use Rattle.bus.specs.declared.response.Response.TheVariants.{R1}
use Rattle.bus.specs.declared.transfer.Transfer.{Transfer}
use Rattle.bus.specs.Command.{command_inner, command}
use Rattle.bus.specs.Ready.{wait_ready}

-- which way the words go: from the card, or to it, and then what they are (the Rust's `Buffer`)
pub data Buffer : Type 0 where
  incoming : Buffer
  outgoing : List ℕ → Buffer

-- DCTRL2 0, stop rows, DTIMER, DLEN in bytes
unfoldable pub arm : ℕ → Transfer → Plan Nothing
arm timeout transfer =
    row DCTRL2 0
    then λ _. stop_data
    then λ _. row DTIMER timeout
    then λ _. row DLEN (4 * transfer.words)

-- idle wait, those rows
unfoldable pub ready_data : Config → Transfer → Plan Nothing
ready_data config transfer = wait_idle config.poll_limit true then λ _. arm config.data_transfer_timeout transfer

-- CLKCR on, the command (R1, its own gate unused)
unfoldable pub order_data : Config → Transfer → Plan Nothing
order_data config transfer =
    set_clken true then λ _. command_inner config.poll_limit transfer.index transfer.argument R1 then λ _. give tt

-- THE DIFFERENCE between reading and writing. The row of DCTRL, with its direction: a read's before the command; a write's after
-- it, and then all data words
unfoldable pub before_command : Buffer → Transfer → Plan Nothing
before_command incoming transfer = row DCTRL (dctrl_of true transfer.block_size)
before_command (outgoing ws) transfer = give tt

unfoldable pub after_command : Buffer → Transfer → Plan Nothing
after_command incoming transfer = give tt
after_command (outgoing ws) transfer = row DCTRL (dctrl_of false transfer.block_size) then λ _. send_words ws transfer.words

-- and after the poll that completes: a read's data words straight after it, none in a write
unfoldable pub landed : Buffer → ℕ → Plan (List ℕ)
landed incoming count = data_words count
landed (outgoing ws) count = give []

unfoldable pub start_data : Config → Buffer → Transfer → Plan Nothing
start_data config buffer transfer =
    ready_data config transfer
    then λ _. before_command buffer transfer
    then λ _. order_data config transfer
    then λ _. after_command buffer transfer

-- what `data_error` says of a status word
abbrev pub heeded : Result (Unit {0}) Error → Plan Nothing
heeded (Ok tt) = give tt
heeded (Err e) = fail e

unfoldable pub clean : ℕ → Plan Nothing
clean status = heeded (data_of status)

-- status word, `data_error`; DMA word, error gives 7
abbrev pub Polled : Type 0
Polled = Poll

abbrev pub nothing_polled : Polled
nothing_polled = record { status = 0; dma = 0 }

unfoldable pub poll_transfer : Plan Polled
poll_transfer =
    word Reading.Status
    then λ status. clean status
    then λ _. word Reading.Dma
    then λ dma. ensure (clear 0x8000_0000 dma) E.Dma
    then λ _. give (record { status = status; dma = dma })

-- remaining nonzero gives 8, and only if it is 0 is DCOUNT read, nonzero gives 8
unfoldable pub drained : ℕ → Plan Nothing
drained dma =
    ensure (eqb (dma % 2 ^ 16) 0) E.IncompleteTransfer
    then λ _. word Reading.DCount
    then λ w. ensure (eqb w 0) E.IncompleteTransfer

-- again status and DMA word, now only `data_error` and the error bit; without 0x100 or with any of 0x3000 polls on
unfoldable pub settle : Plan Bool
settle =
    poll_transfer
    then λ again. cond (clear 0x100 again.status || not (clear 0x3000 again.status)) (give false)
    (drained again.dma then λ _. give true)

-- each poll: running polls on
unfoldable pub data_complete : Plan Bool
data_complete = poll_transfer then λ first. cond (clear 0x4000_0000 first.dma) settle (give false)

-- after `limit` polls, 2
unfoldable pub wait_data : ℕ → Plan Nothing
wait_data limit = until limit (λ done. done) data_complete then λ _. give tt

unfoldable pub receive : ℕ → Buffer → ℕ → Plan (List ℕ)
receive limit buffer count = wait_data limit then λ _. landed buffer count

-- CLKCR off if gated
unfoldable pub close_gate : Plan Nothing
close_gate = look (λ line. cond line.gated (set_clken false) (give tt))

-- CMD12 after CMD18, and after CMD25
abbrev pub of_many : ℕ → Bool
of_many index = eqb index 18 || eqb index 25

unfoldable pub stop_transmission : ℕ → ℕ → Plan Nothing
stop_transmission limit index = cond (of_many index) (command limit 12 0 R1 then λ _. give tt) (give tt)

-- then stop rows, CLKCR off if gated, CMD12, ready wait
unfoldable pub end_data : ℕ → Config → ℕ → ℕ → Plan Nothing
end_data source config index rca =
    stop_data
    then λ _. close_gate
    then λ _. stop_transmission config.poll_limit index
    then λ _. wait_ready source config rca

unfoldable pub transfer_data : ℕ → Config → Buffer → Transfer → ℕ → Plan (List ℕ)
transfer_data source config buffer transfer rca =
    start_data config buffer transfer
    then λ _. receive config.poll_limit buffer transfer.words
    then λ ws. end_data source config transfer.index rca
    then λ _. give ws

-- where a read's data words lie: behind the words used up to the poll that completes
abbrev pub place_after : List ℕ → Plan Nothing → State → ℕ
place_after s p w = (does s (tt {0}) p w).state.progress.used

abbrev pub data_place : List ℕ → Config → Transfer → State → ℕ
data_place s config transfer w = place_after s (start_data config incoming transfer then λ _. wait_data config.poll_limit) w

-- a refusal in a data phase: reset rows
unfoldable pub blocking_data : ℕ → Config → Buffer → Transfer → ℕ → Plan (List ℕ)
blocking_data source config buffer transfer rca = guard reset_controller (transfer_data source config buffer transfer rca)

-- what the answer of a write is to that plan: it gives no words
abbrev pub sent_in : Result Nothing Halt → Result (List ℕ) Halt
sent_in r = seen_as (λ (v : Nothing). []) r
