-- A command to the card, as a plan. It reads like the Rust's `command_inner`, `command` and `app_command`.
use Rattle.std.specs.Prelude.{ℕ, ◌*◌, ◌%◌, ◌^◌, true, false, cond, not, List, [], ◌∷◌, eqb, get_or}
use Rattle.types.specs.declared.error.Error.TheVariants as E
use Rattle.types.specs.declared.error.Field.TheVariants.{AppCommand}
use Rattle.types.specs.Bits.{clear}
use Rattle.tape.specs.declared.script.Reading.TheVariants as Reading
use Rattle.tape.specs.Plan.{Nothing, Plan, give, look, ◌then◌, ensure, finally, until}
use Rattle.tape.specs.Rows.{ARG, CMD, ICR, cmd_of}
use Rattle.tape.specs.Steps.{word, row, wait_idle, set_clken}
use Rattle.bus.specs.declared.response.Form.{Form}
use Rattle.bus.specs.declared.response.Response.{Response}
use Rattle.bus.specs.declared.response.Response.TheVariants.{None, R1, R2, R3, R6, R7}

-- what each response asks of its command
unfoldable pub form_of : Response → Form
form_of None = record { wait = 0; completion = 0x80; silent = true; crc = 0; echoes = false; errors = 0; locked = 0 }
form_of R1 = record { wait = 1; completion = 0x41; silent = false; crc = 0x1; echoes = true; errors = 0xfdff_e008; locked = 0x0200_0000 }
form_of R2 = record { wait = 3; completion = 0x41; silent = false; crc = 0x1; echoes = false; errors = 0; locked = 0 }
form_of R3 = record { wait = 1; completion = 0x41; silent = false; crc = 0; echoes = false; errors = 0; locked = 0 }
form_of R6 = record { wait = 1; completion = 0x41; silent = false; crc = 0x1; echoes = true; errors = 0xe000; locked = 0 }
form_of R7 = record { wait = 1; completion = 0x41; silent = false; crc = 0x1; echoes = true; errors = 0; locked = 0 }

-- what is given where a command was stopped, or had no response
abbrev pub zeros : List ℕ
zeros = 0 ∷ 0 ∷ 0 ∷ 0 ∷ []

-- a response's first word
abbrev pub first_of : List ℕ → ℕ
first_of ws = get_or ws 0 0

-- ICR 0xc5; ARG; CMD
unfoldable pub issue : ℕ → ℕ → Form → Plan Nothing
issue index argument form =
    row ICR 0xc5
    then λ _. row ARG argument
    then λ _. row CMD (cmd_of index form.wait)

-- one status word: 0x4 gives 1
unfoldable pub poll_completion : Plan ℕ
poll_completion = word Reading.Status then λ w. ensure (clear 0x4 w) E.Timeout then λ _. give w

-- at most `limit` of them, until one has a completion bit
unfoldable pub wait_completion : ℕ → Form → Plan ℕ
wait_completion limit form = until limit (λ w. not (clear form.completion w)) poll_completion

-- RESPCMD, where it is read, other than the index gives 9
unfoldable pub echo : ℕ → Form → Plan Nothing
echo index form =
    cond form.echoes (word Reading.RespCmd then λ w. ensure (eqb (w % 64) index) E.ResponseMismatch) (give tt)

-- all four words are read
unfoldable pub response_words : Plan (List ℕ)
response_words =
    word (Reading.Response 0)
    then λ a. word (Reading.Response 1)
    then λ b. word (Reading.Response 2)
    then λ c. word (Reading.Response 3)
    then λ d. give (a ∷ b ∷ c ∷ d ∷ [])

-- the first word's error bits give 10, then its lock bit gives 11
unfoldable pub judge : Form → List ℕ → Plan (List ℕ)
judge form ws =
    ensure (clear form.errors (first_of ws)) (E.CardStatus (first_of ws))
    then λ _. ensure (clear form.locked (first_of ws)) E.CardLocked
    then λ _. give ws

-- after the status word that completed the command: without response it is now accepted; 0x1 gives 3; RESPCMD; the words
unfoldable pub answer : ℕ → Form → ℕ → Plan (List ℕ)
answer index form status =
    cond form.silent (give zeros)
    (ensure (clear form.crc status) E.Crc
    then λ _. echo index form
    then λ _. response_words
    then λ ws. judge form ws)

unfoldable pub complete : ℕ → ℕ → Form → Plan (List ℕ)
complete limit index form = wait_completion limit form then λ status. answer index form status

unfoldable pub command_inner : ℕ → ℕ → ℕ → Response → Plan (List ℕ)
command_inner limit index argument response =
    wait_idle limit false
    then λ _. issue index argument (form_of response)
    then λ _. complete limit index (form_of response)

-- When the host is gated, CLKCR on precedes and CLKCR off follows, also on refusal
unfoldable pub command : ℕ → ℕ → ℕ → Response → Plan (List ℕ)
command limit index argument response =
    look (λ line. cond line.gated
    (set_clken true then λ _. finally (set_clken false) (command_inner limit index argument response))
    (command_inner limit index argument response))

-- CMD55, after which the card takes an application command
unfoldable pub app_command : ℕ → ℕ → Plan Nothing
app_command limit rca =
    command limit 55 (rca * 2 ^ 16) R1
    then λ ws. ensure (not (clear 0x20 (first_of ws))) (E.UnsupportedCardType AppCommand)
