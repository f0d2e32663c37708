-- Steps on scripts written out: what the plans come to.
use Rattle.std.specs.Prelude.{ℕ, Bool, true, false, List, [], ◌∷◌, ◌++◌, ◌≡◌, refl, replicate}
use Rattle.types.specs.declared.card.Signalling.TheVariants.{SDR12}
use Rattle.types.specs.declared.config.Config.{Config}
use Rattle.types.specs.declared.error.Error.TheVariants as E
use Rattle.types.specs.Leaf.{data_of, first_match}
use Rattle.tape.specs.declared.progress.Halt.TheVariants.{Refused, ScriptEnded, TraceFull}
use Rattle.tape.specs.declared.progress.Line.{Line}
use Rattle.tape.specs.Pace.{Going, Stopped}
use Rattle.tape.specs.Layout.{row_of, rows_of_pairs}
use Rattle.tape.specs.Plan.{Plan, handle, ensure, until}
use Rattle.tape.specs.Run.{After, after, noted, run}
use Rattle.tape.specs.Steps.{word, row, wait_idle, set_clken, reset_controller, stop_data, data_from, send_from}
use Rattle.bus.specs.declared.response.Response.TheVariants.{R1}
use Rattle.bus.specs.declared.transfer.Transfer.{Transfer}
use Rattle.bus.specs.Command.{form_of, zeros, issue, poll_completion, wait_completion, echo, response_words, judge, answer}
use Rattle.bus.specs.Command.{complete, command_inner, command}
use Rattle.bus.specs.Ready.{retry_delay, read_status, try_ready, wait_ready}
use Rattle.bus.specs.Transfer.{incoming, outgoing, arm, ready_data, order_data, before_command, after_command, landed, start_data, clean, poll_transfer, drained, settle, data_complete, wait_data, receive}
use Rattle.bus.specs.Transfer.{close_gate, stop_transmission, end_data, transfer_data, blocking_data}

-- a host whose CLKCR is this, gated or not
abbrev host : Bool → ℕ → Line
host gated clkcr = record { clkcr = clkcr; gated = gated; clock = record { 0 = 400_000 }; signalling = SDR12 }

-- three polls at most, and two attempts
abbrev config : Config
config =
    record {
      data_transfer_timeout = 5_000_000;
      software_timeout_ms = 1_000;
      poll_limit = 3;
      card_ready_attempts = 2;
      allow_clock_bypass = false;
    }

-- a plan on a script, of a host gated or not, with room for this many rows
abbrev on : {A : Type 0} → A → Plan A → Line → ℕ → List ℕ → After A
on d p line room s = run s d p 0 0 line (replicate room (row_of 0))

-- CMD13: CLKCR on, ICR, ARG, CMD, CLKCR off
abbrev cmd13 : ℕ → List ℕ → After (List ℕ)
cmd13 = on zeros (command 3 13 0x1234_0000 R1) (host true 4)

abbrev issued : List ℕ
issued = 2 ∷ 260 ∷ 8 ∷ 0xc5 ∷ 3 ∷ 0x1234_0000 ∷ 4 ∷ 1101 ∷ []

-- accepted after one poll that was busy; refused, the clock off as well; the script ended, and the same; no room for the row
-- that turns it off, in either
pub commands :
    cmd13 5 (0 ∷ 0 ∷ 0x40 ∷ 13 ∷ 0x900 ∷ 1 ∷ 2 ∷ 3 ∷ [])
    ∷ cmd13 5 (0 ∷ 0x4 ∷ [])
    ∷ cmd13 5 (0 ∷ [])
    ∷ cmd13 4 (0 ∷ 0x4 ∷ [])
    ∷ cmd13 4 (0 ∷ [])
    ∷ []
    ≡ after (0x900 ∷ 1 ∷ 2 ∷ 3 ∷ []) Going 8 5 (host true 4) (rows_of_pairs (issued ++ 2 ∷ 4 ∷ []))
    ∷ after zeros (Stopped (Refused E.Timeout)) 2 5 (host true 4) (rows_of_pairs (issued ++ 2 ∷ 4 ∷ []))
    ∷ after zeros (Stopped ScriptEnded) 1 5 (host true 4) (rows_of_pairs (issued ++ 2 ∷ 4 ∷ []))
    ∷ after zeros (Stopped TraceFull) 2 4 (host true 260) (rows_of_pairs issued)
    ∷ after zeros (Stopped TraceFull) 1 4 (host true 260) (rows_of_pairs issued)
    ∷ []
unfolding run rows_of_pairs handle ensure until noted word row wait_idle set_clken form_of issue poll_completion wait_completion echo
    response_words judge answer complete command_inner command
commands = refl

-- a card that is busy, and then in the programming state (7): the delay after each attempt, the last too
abbrev cmd13_rows : List ℕ
cmd13_rows = 8 ∷ 0xc5 ∷ 3 ∷ 0x1234_0000 ∷ 4 ∷ 1101 ∷ []

pub ready :
    on tt (wait_ready 8_000_500 config 0x1234) (host false 260) 8 (0 ∷ 0x40 ∷ 13 ∷ 0x800 ∷ 0 ∷ 0 ∷ 0 ∷ 0 ∷ 0x40 ∷ 13 ∷ 0xf00 ∷ 0 ∷ 0 ∷ 0 ∷ [])
    ≡ after tt (Stopped (Refused E.SoftwareTimeout)) 14 8 (host false 260) (rows_of_pairs (cmd13_rows ++ 11 ∷ 8_001 ∷ cmd13_rows ++ 11 ∷ 8_001 ∷ []))
unfolding run rows_of_pairs handle ensure until noted word row wait_idle set_clken form_of issue poll_completion wait_completion echo
    response_words judge answer complete command_inner command retry_delay read_status try_ready wait_ready
ready = refl

-- CMD51: two words of a block of eight bytes
abbrev scr : Transfer
scr = record { index = 51; argument = 0; block_size = 3; words = 2 }

abbrev cmd51 : Line → ℕ → List ℕ → After (List ℕ)
cmd51 = on [] (blocking_data 8_000_000 config incoming scr 0x1234)

-- idle, the command's idle wait, its response
abbrev begun : List ℕ
begun = 0 ∷ 0 ∷ 0x40 ∷ 51 ∷ 0x920 ∷ 0 ∷ 0 ∷ 0 ∷ []

abbrev begun_rows : List ℕ
begun_rows = 10 ∷ 0 ∷ 9 ∷ 0 ∷ 7 ∷ 0 ∷ 8 ∷ 0x73a ∷ 5 ∷ 5_000_000 ∷ 6 ∷ 8 ∷ 7 ∷ 59 ∷ 2 ∷ 260 ∷ 8 ∷ 0xc5 ∷ 3 ∷ 0 ∷ 4 ∷ 1139 ∷ []

abbrev reset_rows : List ℕ
reset_rows = 9 ∷ 0 ∷ 10 ∷ 0 ∷ 7 ∷ 0 ∷ 4 ∷ 0 ∷ 1 ∷ 0 ∷ 2 ∷ 0 ∷ 3 ∷ 0 ∷ 5 ∷ 0 ∷ 6 ∷ 0 ∷ 8 ∷ 0x00c0_07ff ∷ []

-- accepted, after one poll at which the DMA ran; refused with words that remain: DCOUNT is not read, and the reset rows
-- follow; the script ends among the data words, and they follow too, or find no room
pub transfers :
    cmd51 (host false 260) 18 (begun ++ 0 ∷ 0x4000_0001 ∷ 0x100 ∷ 0 ∷ 0x100 ∷ 0 ∷ 0 ∷ 0xaa ∷ 0xbb ∷ 0 ∷ 0x40 ∷ 13 ∷ 0x900 ∷ 0 ∷ 0 ∷ 0 ∷ [])
    ∷ cmd51 (host true 4) 21 (begun ++ 0x100 ∷ 0 ∷ 0x100 ∷ 5 ∷ 0 ∷ [])
    ∷ cmd51 (host true 4) 21 (begun ++ 0x100 ∷ 0 ∷ 0x100 ∷ 0 ∷ 0 ∷ 0xaa ∷ [])
    ∷ cmd51 (host true 4) 12 (begun ++ 0x100 ∷ 0 ∷ 0x100 ∷ 0 ∷ 0 ∷ 0xaa ∷ [])
    ∷ []
    ≡ after (0xaa ∷ 0xbb ∷ []) Going 24 17 (host false 260) (rows_of_pairs (begun_rows ++ 9 ∷ 0 ∷ 7 ∷ 0 ∷ 8 ∷ 0x73a ∷ cmd13_rows ++ 0 ∷ 0 ∷ []))
    ∷ after [] (Stopped (Refused E.IncompleteTransfer)) 12 21 (host true 0)
    (rows_of_pairs (begun_rows ++ reset_rows))
    ∷ after [] (Stopped ScriptEnded) 14 21 (host true 0) (rows_of_pairs (begun_rows ++ reset_rows))
    ∷ after [] (Stopped TraceFull) 14 12 (host true 260) (rows_of_pairs (begun_rows ++ 9 ∷ 0 ∷ []))
    ∷ []
unfolding run rows_of_pairs handle ensure until noted word row wait_idle set_clken form_of issue poll_completion wait_completion echo
    response_words judge answer complete command_inner command retry_delay read_status try_ready wait_ready reset_controller
    stop_data data_from data_of first_match arm ready_data order_data before_command after_command landed start_data clean poll_transfer drained settle data_complete wait_data receive
    close_gate stop_transmission end_data transfer_data blocking_data
transfers = refl

-- CMD25 with two words to send: DCTRL comes behind the command, and then a row for each word
abbrev two : Transfer
two = record { index = 25; argument = 7; block_size = 9; words = 2 }

abbrev cmd25 : Line → ℕ → List ℕ → After (List ℕ)
cmd25 = on [] (blocking_data 8_000_000 config (outgoing (0xaa ∷ 0xbb ∷ [])) two 0x1234)

abbrev ordered_rows : List ℕ
ordered_rows = 10 ∷ 0 ∷ 9 ∷ 0 ∷ 7 ∷ 0 ∷ 8 ∷ 0x73a ∷ 5 ∷ 5_000_000 ∷ 6 ∷ 8 ∷ 2 ∷ 260 ∷ 8 ∷ 0xc5 ∷ 3 ∷ 7 ∷ 4 ∷ 1113 ∷ []

abbrev ordered : List ℕ
ordered = 0 ∷ 0 ∷ 0x40 ∷ 25 ∷ 0x900 ∷ 0 ∷ 0 ∷ 0 ∷ []

-- accepted, with no word taken and CMD12 behind it; a command that is refused leaves no DCTRL and no word; the room ends behind
-- the first word; words that remain
pub sends :
    cmd25 (host false 260) 22 (ordered ++ 0x100 ∷ 0 ∷ 0x100 ∷ 0 ∷ 0 ∷ 0 ∷ 0x40 ∷ 12 ∷ 0 ∷ 0 ∷ 0 ∷ 0 ∷ 0 ∷ 0x40 ∷ 13 ∷ 0x900 ∷ 0 ∷ 0 ∷ 0 ∷ [])
    ∷ cmd25 (host true 4) 20 (0 ∷ 0 ∷ 0x4 ∷ [])
    ∷ cmd25 (host true 4) 12 ordered
    ∷ cmd25 (host true 4) 23 (ordered ++ 0x100 ∷ 0 ∷ 0x100 ∷ 1 ∷ [])
    ∷ []
    ≡ after [] Going 27 22 (host false 260)
    (rows_of_pairs (ordered_rows ++ 7 ∷ 153 ∷ 12 ∷ 0xaa ∷ 12 ∷ 0xbb ∷ 9 ∷ 0 ∷ 7 ∷ 0 ∷ 8 ∷ 0x73a ∷ 8 ∷ 0xc5 ∷ 3 ∷ 0 ∷ 4 ∷ 1100 ∷ cmd13_rows))
    ∷ after [] (Stopped (Refused E.Timeout)) 3 20 (host true 0) (rows_of_pairs (ordered_rows ++ reset_rows))
    ∷ after [] (Stopped TraceFull) 8 12 (host true 260) (rows_of_pairs (ordered_rows ++ 7 ∷ 153 ∷ 12 ∷ 0xaa ∷ []))
    ∷ after [] (Stopped (Refused E.IncompleteTransfer)) 12 23 (host true 0) (rows_of_pairs (ordered_rows ++ 7 ∷ 153 ∷ 12 ∷ 0xaa ∷ 12 ∷ 0xbb ∷ reset_rows))
    ∷ []
unfolding run rows_of_pairs handle ensure until noted word row wait_idle set_clken form_of issue poll_completion wait_completion echo
    response_words judge answer complete command_inner command retry_delay read_status try_ready wait_ready reset_controller
    stop_data send_from data_of first_match arm ready_data order_data before_command after_command landed start_data clean poll_transfer drained settle data_complete wait_data receive
    close_gate stop_transmission end_data transfer_data blocking_data
sends = refl
