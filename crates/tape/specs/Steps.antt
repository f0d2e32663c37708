-- The smallest steps of a call, as plans.
use Rattle.std.specs.Prelude.{ℕ, zero, suc, ◌+◌, Bool, cond, List, [], ◌∷◌, get_or}
use Rattle.types.specs.declared.card.Signalling.{Signalling}
use Rattle.types.specs.declared.clock.Hertz.{Hertz}
use Rattle.types.specs.Bits.{clear}
use Rattle.tape.specs.declared.progress.Line.{Line}
use Rattle.tape.specs.declared.script.Reading.{Reading}
use Rattle.tape.specs.declared.script.Reading.TheVariants.{Status, Data}
use Rattle.tape.specs.Plan.{Nothing, Plan, ended, give, refuse, read, write, look, hold, ◌then◌, until}
use Rattle.tape.specs.Rows.{POWER, CLKCR, ARG, CMD, DTIMER, DLEN, DCTRL, ICR, MASK, DCTRL2, FIFO, clken_of}

-- one word
unfoldable pub word : Reading → Plan ℕ
word kind = read kind give (refuse ended)

-- one row
unfoldable pub row : ℕ → ℕ → Plan Nothing
row register value = write (record { register = register; value = value }) (give tt)

-- what the host holds from here on
abbrev pub holding : (Line → Line) → Plan Nothing
holding f = look (λ line. hold (f line) (give tt))

unfoldable pub hold_gated : Bool → Plan Nothing
hold_gated gated =
    holding (λ line. record { clkcr = line.clkcr; gated = gated; clock = line.clock; signalling = line.signalling })

unfoldable pub hold_clock : Hertz → Plan Nothing
hold_clock clock =
    holding (λ line. record { clkcr = line.clkcr; gated = line.gated; clock = clock; signalling = line.signalling })

unfoldable pub hold_signalling : Signalling → Plan Nothing
hold_signalling signalling =
    holding (λ line. record { clkcr = line.clkcr; gated = line.gated; clock = line.clock; signalling = signalling })

-- Idle wait: at most `limit` status words; idle when status has no bit of 0x800, or of 0x3800 before a data phase or a
-- clock change
abbrev pub idle_mask : Bool → ℕ
idle_mask transfer = cond transfer 0x3800 0x800

unfoldable pub wait_idle : ℕ → Bool → Plan Nothing
wait_idle limit transfer = until limit (clear (idle_mask transfer)) (word Status) then λ _. give tt

-- Reset rows, in order
unfoldable pub reset_controller : Plan Nothing
reset_controller =
    row MASK 0
    then λ _. row DCTRL2 0
    then λ _. row DCTRL 0
    then λ _. row CMD 0
    then λ _. row POWER 0
    then λ _. row CLKCR 0
    then λ _. row ARG 0
    then λ _. row DTIMER 0
    then λ _. row DLEN 0
    then λ _. row ICR 0x00c0_07ff

-- stop rows
unfoldable pub stop_data : Plan Nothing
stop_data = row MASK 0 then λ _. row DCTRL 0 then λ _. row ICR 0x73a

-- CLKCR as it was last written, on or off
unfoldable pub set_clken : Bool → Plan Nothing
set_clken on = look (λ line. row CLKCR (clken_of line.clkcr on))

-- n data words, one after the other, of which k came before
unfoldable pub data_from : ℕ → ℕ → Plan (List ℕ)
data_from k zero = give []
data_from k (suc n) = word (Data k) then λ w. data_from (k + 1) n then λ ws. give (w ∷ ws)

abbrev pub data_words : ℕ → Plan (List ℕ)
data_words n = data_from 0 n

-- n words of ws from place k on, one after the other, each a row of FIFO
unfoldable pub send_from : List ℕ → ℕ → ℕ → Plan Nothing
send_from ws k zero = give tt
send_from ws k (suc n) = row FIFO (get_or ws k 0) then λ _. send_from ws (k + 1) n

abbrev pub send_words : List ℕ → ℕ → Plan Nothing
send_words ws n = send_from ws 0 n
