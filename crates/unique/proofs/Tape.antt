-- A line for each public function of `tape`.
use mathlib.Core.Bool.{false}
use mathlib.Core.List.{List, []}
use Prim.Native.Nat.{ℕ}
use Rattle.std.specs.Prelude.{Result}
use mathlib.Core.Path.{ap}
use Rattle.types.specs.declared.card.Signalling.TheVariants.{SDR12}
use Rattle.tape.specs.declared.progress.Halt.{Halt}
use Rattle.tape.specs.declared.progress.Halt.TheVariants.{TraceFull}
use Rattle.tape.specs.declared.progress.Head.{Head}
use Rattle.tape.specs.declared.script.Reading.TheVariants.{Status}
use Rattle.tape.specs.Pace.{Pace, Going, Stopped}
use Rattle.tape.specs.Plan.{Nothing}
use Rattle.tape.specs.Run.{After, words_in}
use Rattle.tape.proofs.pairs
use Rattle.tape.proofs.progress
use Rattle.tape.proofs.rows
use Rattle.tape.proofs.script
use Rattle.tape.proofs.send
use Rattle.tape.proofs.steps
use Rattle.unique.specs.Unique.{Unique, UniqueIn}
use Rattle.unique.proofs.Determined.{determined, part-determined}
use Rattle.unique.proofs.Steps.{head_of, by-words, left, answer, answered, listed, on-any}

-- why a stopped call stopped
abbrev stopped_at : Pace → Halt
stopped_at (Stopped x) = x
stopped_at Going = TraceFull

abbrev stopped_by : After Nothing → Halt
stopped_by x = stopped_at x.state.progress.pace

-- some head: what a step says of every one it says of this
abbrev somewhere : Head
somewhere = record { used = 0; rows = 0; line = record { clkcr = 0; clock = record { 0 = 0 }; gated = false; signalling = SDR12 } }

progress-line-noted : Unique progress.Line.noted.Kinds.ps progress.Line.noted.Kinds.r progress.Line.noted.Reads.Learnt
progress-line-noted = determined _ λ _ _ _ p. p

progress-ensure : Unique progress.ensure.Kinds.ps progress.ensure.Kinds.r progress.ensure.Reads.Learnt
progress-ensure = determined _ λ _ _ _ p. answer (p [] somewhere [])

pairs_convert : Unique pairs.convert.Kinds.ps pairs.convert.Kinds.r pairs.convert.Reads.Learnt
pairs_convert = determined _ λ _ _ _ p i. (p.1 i, p.0 i)

rows-row-of : Unique rows.Row.of.Kinds.ps rows.Row.of.Kinds.r rows.Row.of.Reads.Learnt
rows-row-of = determined _ λ _ _ _ p. p

rows-row-word : Unique rows.Row.word.Kinds.ps rows.Row.word.Kinds.r rows.Row.word.Reads.Learnt
rows-row-word = determined _ λ _ _ _ p. p

rows-write-row : Unique rows.write_row.Kinds.ps rows.write_row.Kinds.r rows.write_row.Reads.Learnt
rows-write-row = determined _ λ _ _ _ p. listed (p [])

rows_with_clken : Unique rows.with_clken.Kinds.ps rows.with_clken.Kinds.r rows.with_clken.Reads.Learnt
rows_with_clken = determined _ λ _ _ _ p. p

rows_clkcr : Unique rows.clkcr.Kinds.ps rows.clkcr.Kinds.r rows.clkcr.Reads.Learnt
rows_clkcr = determined _ λ _ _ _ p. p

rows_cmd : Unique rows.cmd.Kinds.ps rows.cmd.Kinds.r rows.cmd.Reads.Learnt
rows_cmd = determined _ λ _ _ _ p. p

rows_dctrl : Unique rows.dctrl.Kinds.ps rows.dctrl.Kinds.r rows.dctrl.Reads.Learnt
rows_dctrl = determined _ λ _ _ _ p. p

script-busy : Unique script.busy.Kinds.ps script.busy.Kinds.r script.busy.Reads.Learnt
script-busy = determined _ λ _ _ _ p. p

script_quiet : Unique script.quiet.Kinds.ps script.quiet.Kinds.r script.quiet.Reads.Learnt
script_quiet = determined _ λ _ _ _ p. p

script-read-word : Unique script.read_word.Kinds.ps script.read_word.Kinds.r script.read_word.Reads.Learnt
script-read-word = determined _ λ _ _ _ p. answered (on-any (p Status))

send_send_data : Unique send.send_data.Kinds.ps send.send_data.Kinds.r send.send_data.Reads.Learnt
send_send_data = determined _ λ _ _ _ p. listed (p [])

steps_wait_idle : Unique steps.wait_idle.Kinds.ps steps.wait_idle.Kinds.r steps.wait_idle.Reads.Learnt
steps_wait_idle = determined _ λ _ _ _ p. answered (on-any p)

steps_reset_controller : Unique steps.reset_controller.Kinds.ps steps.reset_controller.Kinds.r steps.reset_controller.Reads.Learnt
steps_reset_controller = determined _ λ _ _ _ p. listed (p [])

steps_stop_data : Unique steps.stop_data.Kinds.ps steps.stop_data.Kinds.r steps.stop_data.Reads.Learnt
steps_stop_data = determined _ λ _ _ _ p. listed (p [])

steps_set_clken : Unique steps.set_clken.Kinds.ps steps.set_clken.Kinds.r steps.set_clken.Reads.Learnt
steps_set_clken = determined _ λ _ _ _ p. listed (p [])

steps_close : Unique steps.close.Kinds.ps steps.close.Kinds.r steps.close.Reads.Learnt
steps_close = determined _ λ _ _ _ p i.
    (ap head_of (p []).same i, by-words (ap (λ (x : After Nothing). x.state.list) (p []).same) (ap stopped_by (p []).same) i)

steps-hold-gated : Unique steps.hold_gated.Kinds.ps steps.hold_gated.Kinds.r steps.hold_gated.Reads.Learnt
steps-hold-gated = determined _ λ _ _ _ p i. (left (p [] []) i, tt)

steps-hold-clock : Unique steps.hold_clock.Kinds.ps steps.hold_clock.Kinds.r steps.hold_clock.Reads.Learnt
steps-hold-clock = determined _ λ _ _ _ p i. (left (p [] []) i, tt)

steps-hold-signalling : Unique steps.hold_signalling.Kinds.ps steps.hold_signalling.Kinds.r steps.hold_signalling.Reads.Learnt
steps-hold-signalling = determined _ λ _ _ _ p i. (left (p [] []) i, tt)

-- Exceptions: what they give is lent. What it holds is promised, and of data words from which place of the script on they are;
-- not which loan it is.
script-rest : UniqueIn script.rest.Kinds.ps script.rest.Kinds.r script.rest.Reads.Learnt (λ _ _ x. x.0.now)
script-rest = part-determined _ λ _ _ _ p. p.0.part

script_take_data : UniqueIn script.take_data.Kinds.ps script.take_data.Kinds.r script.take_data.Reads.Learnt {X = λ _ _. Head × Result (List ℕ) Halt} (λ _ _ x. (x.1.0, words_in x.0))
script_take_data = part-determined _ λ _ _ _ p. answered (on-any p.0)
