-- How many words the steps take at most, one command 2 * poll_limit + 5; and how many words a data phase gives.
use Rattle.std.specs.Prelude.{Result, Ok, Err}
use Rattle.types.specs.declared.error.Error.{Error}
use Prim.Native.Nat.{ℕ, zero, suc, ◌+◌, ◌*◌, ◌-◌, ◌≤◌}
use mathlib.Core.Path.{◌≡◌, refl, ap, sym, ◌∙◌}
use mathlib.Core.Bool.{Bool, true, false, not, ◌||◌}
use mathlib.Core.List.{List, [], ◌∷◌}
use native.Mathlib.Omega.{arith}
use lib.ListN.{length, take, drop, length-take, length-drop}
use Rattle.types.specs.declared.config.Config.{Config}
use Rattle.types.specs.Bits.{clear}
use Rattle.types.specs.Leaf.{data_of}
use Rattle.types.specs.Sd.{ready_of}
use Rattle.tape.specs.Pace.{Going}
use Rattle.tape.specs.Plan.{refusing}
use Rattle.tape.specs.declared.progress.Head.{Head}
use Rattle.tape.specs.declared.rows.Row.{Row}
use Rattle.tape.specs.Run.{State, going_at, left_at, Gave, Took, Lies}
use Rattle.tape.specs.Steps.{wait_idle, reset_controller, stop_data, set_clken}
use Rattle.tape.proofs.Words.{AtMost, at-most-handle, at-most-give, at-most-fail, at-most-word, at-most-row, at-most-look}
use Rattle.tape.proofs.Words.{at_most_test, at-most-ensure, at_most_then, at-most-after, at-most-until, at_most_data, at_most_send, taken}
use Rattle.tape.proofs.Values.{Gives, gives-handle, gives-give, gives_then, gives-last, gives-refuse, gives_data, given}
use Rattle.bus.specs.declared.response.Form.{Form}
use Rattle.bus.specs.declared.response.Response.{Response}
use Rattle.bus.specs.Command.{form_of, zeros, issue, poll_completion, wait_completion, echo, response_words, judge, answer}
use Rattle.bus.specs.Command.{complete, command_inner, command, app_command}
use Rattle.bus.specs.declared.transfer.Transfer.{Transfer}
use Rattle.bus.specs.Ready.{retry_delay, read_status, try_ready, wait_ready}
use Rattle.bus.specs.Transfer.{Buffer, incoming, outgoing, arm, ready_data, order_data, before_command, after_command, landed, start_data, heeded, clean, poll_transfer, drained, settle, data_complete, wait_data}
use Rattle.bus.specs.Transfer.{receive, close_gate, of_many, stop_transmission, end_data, transfer_data, data_place, blocking_data}

idle-words : (limit : ℕ) (transfer : Bool) → AtMost limit (wait_idle limit transfer)
unfolding wait_idle
idle-words limit transfer = at_most_then limit 0 (at-most-until 1 limit _ (at-most-word _) (omega arith)) (λ _. at-most-give) (omega arith)

clken_words : (on : Bool) → AtMost 0 (set_clken on)
unfolding set_clken
clken_words on = at-most-look (λ line. at-most-row _ _)

issue-words : (index argument : ℕ) (form : Form) → AtMost 0 (issue index argument form)
unfolding issue
issue-words index argument form = at-most-after (at-most-row _ _) (λ _. at-most-after (at-most-row _ _) (λ _. at-most-row _ _))

poll_words : AtMost 1 poll_completion
unfolding poll_completion
poll_words = at_most_then 1 0 (at-most-word _) (λ w. at-most-after (at-most-ensure _ _) (λ _. at-most-give)) (omega arith)

completion_words : (limit : ℕ) (form : Form) → AtMost limit (wait_completion limit form)
unfolding wait_completion
completion_words limit form = at-most-until 1 limit _ poll_words (omega arith)

echo-words : (index : ℕ) (form : Form) → AtMost 1 (echo index form)
unfolding echo
echo-words index form =
    at_most_test form.echoes (at_most_then 1 0 (at-most-word _) (λ w. at-most-ensure _ _) (omega arith)) at-most-give

four-words : AtMost 4 response_words
unfolding response_words
four-words =
    at_most_then 1 3 (at-most-word _)
    (λ a. at_most_then 1 2 (at-most-word _)
    (λ b. at_most_then 1 1 (at-most-word _)
    (λ c. at_most_then 1 0 (at-most-word _) (λ d. at-most-give) (omega arith)) (omega arith)) (omega arith)) (omega arith)

answer-words : (index : ℕ) (form : Form) (status : ℕ) → AtMost 5 (answer index form status)
unfolding answer judge
answer-words index form status =
    at_most_test form.silent at-most-give
    (at-most-after (at-most-ensure _ _)
    (λ _. at_most_then 1 4 (echo-words index form)
    (λ _. at_most_then 4 0 four-words (λ ws. at-most-after (at-most-ensure _ _) (λ _. at-most-after (at-most-ensure _ _) (λ _. at-most-give))) (omega arith))
    (omega arith)))

inner-words : (limit index argument : ℕ) (response : Response) → AtMost (2 * limit + 5) (command_inner limit index argument response)
unfolding command_inner complete
inner-words limit index argument response =
    at_most_then limit (limit + 5) (idle-words limit false)
    (λ _. at-most-after (issue-words index argument (form_of response))
    (λ _. at_most_then limit 5 (completion_words limit (form_of response)) (answer-words index (form_of response)) (omega arith)))
    (omega arith)

-- One command uses at most 2 * poll_limit + 5 words.
pub command-words : (limit index argument : ℕ) (response : Response) → AtMost (2 * limit + 5) (command limit index argument response)
unfolding command
command-words limit index argument response =
    let inner = inner-words limit index argument response in
    at-most-look (λ line. at_most_test line.gated
    (at-most-after (clken_words true)
    (λ _. at-most-handle (2 * limit + 5) 0 (refusing (set_clken false)) inner
    (λ ws. at-most-after (clken_words false) (λ _. at-most-give))
    (λ e. at-most-after (clken_words false) (λ _. at-most-fail))
    (omega arith)))
    inner)

pub command-used : {s : List ℕ} (limit index argument : ℕ) (response : Response) {w : State} {v : List ℕ} {w' : State}
    → w.progress.pace ≡ Going → Gave s (List ℕ) zeros (command limit index argument response) w v w'
    → w'.progress.used ≤ w.progress.used + (2 * limit + 5)
command-used limit index argument response g e = (taken g (command-words limit index argument response) e).most

pub app-words : (limit rca : ℕ) → AtMost (2 * limit + 5) (app_command limit rca)
unfolding app_command
app-words limit rca = at_most_then (2 * limit + 5) 0 (command-words limit 55 _ _) (λ ws. at-most-ensure _ _) (omega arith)

try-words : (source limit rca : ℕ) → AtMost (2 * limit + 5) (try_ready source limit rca)
unfolding try_ready read_status retry_delay
try-words source limit rca =
    at_most_then (2 * limit + 5) 0 (at_most_then (2 * limit + 5) 0 (command-words limit 13 _ _) (λ ws. at-most-give) (omega arith))
    (λ status. at_most_test (ready_of status) at-most-give (at-most-after (at-most-row _ _) (λ _. at-most-give)))
    (omega arith)

pub ready_words : (source : ℕ) (config : Config) (rca : ℕ)
    → AtMost (config.card_ready_attempts * (2 * config.poll_limit + 5)) (wait_ready source config rca)
unfolding wait_ready
ready_words source config rca =
    let most = 2 * config.poll_limit + 5 in
    let all = config.card_ready_attempts * most in
    at_most_then all 0 (at-most-until most config.card_ready_attempts _ (try-words source config.poll_limit rca) (omega arith))
    (λ _. at-most-give)
    (omega arith)

stop_words : AtMost 0 stop_data
unfolding stop_data
stop_words = at-most-after (at-most-row _ _) (λ _. at-most-after (at-most-row _ _) (λ _. at-most-row _ _))

arm-words : (timeout : ℕ) (transfer : Transfer) → AtMost 0 (arm timeout transfer)
unfolding arm
arm-words timeout transfer =
    at-most-after (at-most-row _ _) (λ _. at-most-after stop_words (λ _. at-most-after (at-most-row _ _) (λ _. at-most-row _ _)))

before-words : (buffer : Buffer) (transfer : Transfer) → AtMost 0 (before_command buffer transfer)
unfolding before_command
before-words incoming transfer = at-most-row _ _
before-words (outgoing ws) transfer = at-most-give

after-words : (buffer : Buffer) (transfer : Transfer) → AtMost 0 (after_command buffer transfer)
unfolding after_command
after-words incoming transfer = at-most-give
after-words (outgoing ws) transfer = at-most-after (at-most-row _ _) (λ _. at_most_send ws 0 transfer.words)

start-words : (config : Config) (buffer : Buffer) (transfer : Transfer) → AtMost (3 * config.poll_limit + 5) (start_data config buffer transfer)
unfolding start_data ready_data order_data
start-words config buffer transfer =
    let limit = config.poll_limit in
    at_most_then limit (2 * limit + 5)
    (at_most_then limit 0 (idle-words limit true) (λ _. arm-words _ transfer) (omega arith))
    (λ _. at-most-after (before-words buffer transfer)
    (λ _. at_most_then (2 * limit + 5) 0
    (at-most-after (clken_words true) (λ _. at_most_then (2 * limit + 5) 0 (inner-words limit _ _ _) (λ _. at-most-give) (omega arith)))
    (λ _. after-words buffer transfer)
    (omega arith)))
    (omega arith)

heeded-words : (a : Result (Unit {0}) Error) → AtMost 0 (heeded a)
heeded-words (Ok tt) = at-most-give
heeded-words (Err e) = at-most-fail

both_words : AtMost 2 poll_transfer
unfolding poll_transfer clean
both_words =
    at_most_then 1 1 (at-most-word _)
    (λ status. at-most-after (heeded-words (data_of status))
    (λ _. at_most_then 1 0 (at-most-word _) (λ dma. at-most-after (at-most-ensure _ _) (λ _. at-most-give)) (omega arith)))
    (omega arith)

settle-words : AtMost 3 settle
unfolding settle drained
settle-words =
    at_most_then 2 1 both_words
    (λ again. at_most_test (clear 0x100 again.status || not (clear 0x3000 again.status)) at-most-give
    (at_most_then 1 0 (at-most-after (at-most-ensure _ _) (λ _. at_most_then 1 0 (at-most-word _) (λ w. at-most-ensure _ _) (omega arith))) (λ _. at-most-give) (omega arith)))
    (omega arith)

complete-words : AtMost 5 data_complete
unfolding data_complete
complete-words = at_most_then 2 3 both_words (λ first. at_most_test (clear 0x4000_0000 first.dma) settle-words at-most-give) (omega arith)

-- the data words of a phase: a write takes none
unfoldable pub count_in : Buffer → ℕ → ℕ
count_in incoming count = count
count_in (outgoing ws) count = 0

landed-words : (buffer : Buffer) (count : ℕ) → AtMost (count_in buffer count) (landed buffer count)
unfolding landed count_in
landed-words incoming count = at_most_data 0 count
landed-words (outgoing ws) count = at-most-give

receive-words : (limit : ℕ) (buffer : Buffer) (count : ℕ) → AtMost (5 * limit + count_in buffer count) (receive limit buffer count)
unfolding receive wait_data
receive-words limit buffer count =
    at_most_then (5 * limit) (count_in buffer count)
    (at_most_then (5 * limit) 0 (at-most-until 5 limit _ complete-words (omega arith)) (λ _. at-most-give) (omega arith))
    (λ _. landed-words buffer count)
    (omega arith)

end-words : (source : ℕ) (config : Config) (index rca : ℕ)
    → AtMost (2 * config.poll_limit + 5 + config.card_ready_attempts * (2 * config.poll_limit + 5)) (end_data source config index rca)
unfolding end_data close_gate stop_transmission
end-words source config index rca =
    let limit = config.poll_limit in
    at-most-after stop_words
    (λ _. at-most-after (at-most-look (λ line. at_most_test line.gated (clken_words false) at-most-give))
    (λ _. at_most_then (2 * limit + 5) (config.card_ready_attempts * (2 * limit + 5))
    (at_most_test (of_many index) (at_most_then (2 * limit + 5) 0 (command-words limit 12 0 _) (λ _. at-most-give) (omega arith)) at-most-give)
    (λ _. ready_words source config rca)
    (omega arith)))

reset-words : AtMost 0 reset_controller
unfolding reset_controller
reset-words =
    at-most-after (at-most-row _ _)
    (λ _. at-most-after (at-most-row _ _)
    (λ _. at-most-after (at-most-row _ _)
    (λ _. at-most-after (at-most-row _ _)
    (λ _. at-most-after (at-most-row _ _)
    (λ _. at-most-after (at-most-row _ _)
    (λ _. at-most-after (at-most-row _ _)
    (λ _. at-most-after (at-most-row _ _)
    (λ _. at-most-after (at-most-row _ _) (λ _. at-most-row _ _)))))))))

-- A data phase: its own words, its polls, and its commands.
pub data-words : (source : ℕ) (config : Config) (buffer : Buffer) (transfer : Transfer) (rca : ℕ)
    → AtMost (count_in buffer transfer.words + 10 * config.poll_limit + 10 + config.card_ready_attempts * (2 * config.poll_limit + 5))
    (blocking_data source config buffer transfer rca)
unfolding blocking_data transfer_data
data-words source config buffer transfer rca =
    let limit = config.poll_limit in
    let attempts = config.card_ready_attempts * (2 * limit + 5) in
    let count = count_in buffer transfer.words in
    at-most-handle (count + 10 * limit + 10 + attempts) 0 (refusing reset_controller)
    (at_most_then (3 * limit + 5) (count + 7 * limit + 5 + attempts) (start-words config buffer transfer)
    (λ _. at_most_then (5 * limit + count) (2 * limit + 5 + attempts) (receive-words limit buffer transfer.words)
    (λ ws. at_most_then (2 * limit + 5 + attempts) 0 (end-words source config _ rca) (λ _. at-most-give) (omega arith))
    (omega arith)) (omega arith))
    (λ ws. at-most-give)
    (λ e. at-most-after reset-words (λ _. at-most-fail))
    (omega arith)

gives-landed : (buffer : Buffer) (count : ℕ) → Gives (List ℕ) (λ ws. length ws ≡ count_in buffer count) (landed buffer count)
unfolding landed count_in
gives-landed incoming count = gives_data 0 count
gives-landed (outgoing ws) count = gives-give refl

-- An accepted data phase gives as many words as were asked for, and none where they were sent,
pub gives-words : (source : ℕ) (config : Config) (buffer : Buffer) (transfer : Transfer) (rca : ℕ)
    → Gives (List ℕ) (λ ws. length ws ≡ count_in buffer transfer.words) (blocking_data source config buffer transfer rca)
unfolding blocking_data transfer_data receive
gives-words source config buffer transfer rca =
    gives-handle
    (gives-last _ (λ _. gives_then (gives-last _ (λ _. gives-landed buffer transfer.words)) (λ ws h. gives-last _ (λ _. gives-give h))))
    (λ ws h. gives-give h)
    (λ c. gives-last _ (λ _. gives-refuse))

own-length : (n : ℕ) (l : List ℕ) → take (length (take n l)) l ≡ take n l
own-length zero l = refl
own-length (suc n) [] = refl
own-length (suc n) (x ∷ l) = ap (λ (r : List ℕ). x ∷ r) (own-length n l)

-- which lie in the script from the place on that is told of them.
pub data-place : (source : ℕ) (config : Config) (transfer : Transfer) (rca : ℕ) (s : List ℕ) (place count : ℕ) {w w' : State}
    → Gave s (List ℕ) [] (blocking_data source config incoming transfer rca) w (take count (drop place s)) w' → w'.progress.pace ≡ Going
    → (take count (drop place s) ≡ take transfer.words (drop place s)) × (transfer.words ≤ length s - place)
unfolding count_in
data-place source config transfer rca s place count e g =
    let long : length (take count (drop place s)) ≡ transfer.words = given (gives-words source config incoming transfer rca) e g in
    (sym (own-length count (drop place s)) ∙ ap (λ (n : ℕ). take n (drop place s)) long, omega (arith, long, length-take count (drop place s), length-drop place s))

-- The clauses of the function `blocking_data` tell it: `data_place`.
pub data_placed : (source : ℕ) (config : Config) (transfer : Transfer) (rca : ℕ) {s ws : List ℕ} {h h' : Head} {l l' : List Row}
    → Took s (List ℕ) [] (blocking_data source config incoming transfer rca) h l (Ok ws) h' l' → Lies s (data_place s config transfer (going_at h l)) transfer.words (Ok ws)
    → Gave s (List ℕ) [] (blocking_data source config incoming transfer rca) (going_at h l) (take transfer.words (drop (data_place s config transfer (going_at h l)) s)) (left_at (Ok ws) h' l')
data_placed source config transfer rca took lies = rw lies.there at took.gave
