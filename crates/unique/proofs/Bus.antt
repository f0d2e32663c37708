-- A line for each public function of `bus`.
use Prim.Native.Nat.{ℕ}
use mathlib.Core.List.{List, []}
use mathlib.Core.Path.{◌≡◌, refl, ap, ◌∙◌}
use Rattle.tape.specs.Plan.{Nothing, Plan, give, refuse, read, write, look, hold, failed, ended}
use Rattle.tape.specs.declared.progress.Halt.{Halt}
use Rattle.tape.specs.declared.progress.Head.{Head}
use Rattle.tape.specs.Layout.{rows_in}
use Rattle.tape.specs.Run.{words_in}
use Rattle.tape.specs.Steps.{row}
use Rattle.std.specs.Prelude.{Result, Ok, Err}
use Rattle.types.specs.declared.error.Error.{Error}
use Rattle.bus.specs.Clock.{delayed}
use Rattle.bus.specs.Transfer.{sent_in}
use Rattle.bus.proofs.clock
use Rattle.bus.proofs.command
use Rattle.bus.proofs.poll
use Rattle.bus.proofs.ready
use Rattle.bus.proofs.response
use Rattle.bus.proofs.transfer
use Rattle.unique.specs.Unique.{Unique, UniqueIn}
use Rattle.unique.proofs.Determined.{determined, part-determined}
use Rattle.unique.proofs.Steps.{by-words, left, rows-left, answer, answered, listed, on, on-any}

clock_configure_clock : Unique clock.configure_clock.Kinds.ps clock.configure_clock.Kinds.r clock.configure_clock.Reads.Learnt
clock_configure_clock = determined _ λ _ _ _ p. listed p

clock-clock-delay : Unique clock.clock_delay.Kinds.ps clock.clock_delay.Kinds.r clock.clock_delay.Reads.Learnt
clock-clock-delay = determined _ λ _ _ _ p. listed (p [])

-- the answer that a delay's plan tells
abbrev delay_in : Plan Nothing → Result ℕ Error
delay_in (write r _) = Ok r.value
delay_in (refuse (failed e)) = Err e
delay_in (refuse ended) = Ok 0
delay_in (give _) = Ok 0
delay_in (read _ _ _) = Ok 0
delay_in (look _) = Ok 0
delay_in (hold _ _) = Ok 0

delay-told : (x : Result ℕ Error) → x ≡ delay_in (delayed x)
unfolding delayed row
delay-told (Ok n) = refl
delay-told (Err e) = refl

clock-delay : Unique clock.delay.Kinds.ps clock.delay.Kinds.r clock.delay.Reads.Learnt
clock-delay = determined _ λ _ _ x p. delay-told x.0 ∙ ap delay_in p

command-command-inner : Unique command.command_inner.Kinds.ps command.command_inner.Kinds.r command.command_inner.Reads.Learnt
command-command-inner = determined _ λ _ _ _ p. listed (on p)

command-command : Unique command.command.Kinds.ps command.command.Kinds.r command.command.Reads.Learnt
command-command = determined _ λ _ _ _ p. listed (on p)

command_send : Unique command.send.Kinds.ps command.send.Kinds.r command.send.Reads.Learnt
command_send = determined _ λ _ _ _ p. listed p

command-app-command : Unique command.app_command.Kinds.ps command.app_command.Kinds.r command.app_command.Reads.Learnt
command-app-command = determined _ λ _ _ _ p. listed p

poll_data_complete : Unique poll.data_complete.Kinds.ps poll.data_complete.Kinds.r poll.data_complete.Reads.Learnt
poll_data_complete = determined _ λ _ _ _ p. answered (on-any p)

poll_wait_data : Unique poll.wait_data.Kinds.ps poll.wait_data.Kinds.r poll.wait_data.Reads.Learnt
poll_wait_data = determined _ λ _ _ _ p. answered (on-any p)

ready_millisecond : Unique ready.millisecond.Kinds.ps ready.millisecond.Kinds.r ready.millisecond.Reads.Learnt
ready_millisecond = determined _ λ _ _ _ p. p

ready_retry_delay : Unique ready.retry_delay.Kinds.ps ready.retry_delay.Kinds.r ready.retry_delay.Reads.Learnt
ready_retry_delay = determined _ λ _ _ _ p. listed (p [])

ready-read-status : Unique ready.read_status.Kinds.ps ready.read_status.Kinds.r ready.read_status.Reads.Learnt
ready-read-status = determined _ λ _ _ _ p. listed p

ready_wait_ready : Unique ready.wait_ready.Kinds.ps ready.wait_ready.Kinds.r ready.wait_ready.Reads.Learnt
ready_wait_ready = determined _ λ _ _ _ p. listed p

response-response-form : Unique response.Response.form.Kinds.ps response.Response.form.Kinds.r response.Response.form.Reads.Learnt
response-response-form = determined _ λ _ _ _ p. p

transfer_of_many : Unique transfer.of_many.Kinds.ps transfer.of_many.Kinds.r transfer.of_many.Reads.Learnt
transfer_of_many = determined _ λ _ _ _ p. p

abbrev none_in : Result (List ℕ) Halt → Result Nothing Halt
none_in (Ok ws) = Ok tt
none_in (Err x) = Err x

none-back : (r : Result Nothing Halt) → r ≡ none_in (sent_in r)
none-back (Ok v) = refl
none-back (Err x) = refl

transfer_blocking_send : Unique transfer.blocking_send.Kinds.ps transfer.blocking_send.Kinds.r transfer.blocking_send.Reads.Learnt
transfer_blocking_send = determined _ λ _ _ x p i. (left p i, by-words (rows-left p) (none-back x.0 ∙ ap none_in (answer p)) i)

-- An exception: what it gives is lent. What it holds is promised, and from which place of the script on; not which loan it is.
transfer_blocking_data : UniqueIn transfer.blocking_data.Kinds.ps transfer.blocking_data.Kinds.r transfer.blocking_data.Reads.Learnt {X = λ _ _. Head × (List ℕ × Result (List ℕ) Halt)} (λ _ _ x. (x.1.0, (x.1.1.1.0, words_in x.0)))
transfer_blocking_data = part-determined _ λ _ _ _ p. listed p.0
