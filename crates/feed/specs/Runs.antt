-- What is ahead of a call, run on a script, and what the call comes to there; and where in the script the data words lie.
use Rattle.std.specs.Prelude.{ℕ, suc, ◌+◌, ◌*◌, ◌/◌, cond, List, [], eqb, ltb, length, get_or, set}
use Rattle.types.specs.declared.error.Answer.{Answer}
use Rattle.types.specs.declared.error.Answer.TheVariants as Answered
use Rattle.tape.specs.declared.progress.Halt.TheVariants.{Refused, ScriptEnded, TraceFull}
use Rattle.tape.specs.declared.progress.Line.{Line}
use Rattle.tape.specs.Pace.{Pace}
use Rattle.tape.specs.Pace.{Going, Stopped}
use Rattle.tape.specs.declared.rows.Row.{Row}
use Rattle.tape.specs.declared.script.Reading.{Reading}
use Rattle.tape.specs.Plan.{Plan, give, refuse, read, write, look, hold}
use Rattle.tape.specs.Run.{State, After, after, halt_of, noted, run}
use Rattle.host.specs.declared.host.Sdmmc.{Sdmmc}
use Rattle.host.specs.Calls.{Came, came}
use Rattle.step.specs.Next.{Next, asks, tells, over, refused}
use Rattle.stepping.specs.Closing.{Closing}

-- what is ahead, on the script s, from u words and n rows of l; it gives d where it stops
unfoldable pub run_next : {A : Type 0} → List ℕ → A → Next A → ℕ → ℕ → List Row → After A
run_next s d (asks h r k z) u n l = run s d (read r k z) u n h l
run_next s d (tells h r p) u n l = run s d (write r p) u n h l
run_next s d (over h a) u n l = after a Going u n h l
run_next s d (refused h c) u n l = after d (Stopped (halt_of c)) u n h l

-- what a call comes to, from how its run ended: one that stopped leaves the host before it
unfoldable pub came_by : Sdmmc → Closing → Pace → State → Came
came_by host c Going w = came c.answer w c.taken c.host
came_by host c (Stopped (Refused e)) w = came (Answered.Refused e) w [] host
came_by host c (Stopped ScriptEnded) w = came Answered.ScriptEnded w [] host
came_by host c (Stopped TraceFull) w = came Answered.TraceFull w [] host

abbrev pub came_of : Sdmmc → After Closing → Came
came_of host x = came_by host x.value x.state.progress.pace x.state

-- what is given of a call that stopped: it is not looked at
abbrev pub no_closing : Sdmmc → Closing
no_closing host = record { answer = Answered.ScriptEnded; host = host; taken = [] }

-- where the data words lie after a reading of the word at u: a transfer begins with its word 0
unfoldable pub lies_at : Reading → ℕ → ℕ → ℕ
lies_at Reading.Status u place = place
lies_at Reading.RespCmd u place = place
lies_at (Reading.Response i) u place = place
lies_at Reading.Dma u place = place
lies_at Reading.DCount u place = place
lies_at (Reading.Data k) u place = cond (eqb k 0) u place

-- and after a run
unfoldable pub place_run : {A : Type 0} → List ℕ → Plan A → ℕ → ℕ → ℕ → Line → List Row → ℕ
place_run s (give a) place u n h l = place
place_run s (refuse c) place u n h l = place
place_run s (read r k z) place u n h l =
    cond (ltb u (length s)) (place_run s (k (get_or s u 0)) (lies_at r u place) (u + 1) n h l) (place_run s z place u n h l)
place_run s (write r p) place u n h l = cond (ltb n (length l)) (place_run s p place u (n + 1) (noted r h) (set l n r)) place
place_run s (look k) place u n h l = place_run s (k h) place u n h l
place_run s (hold h' p) place u n h l = place_run s p place u n h' l

unfoldable pub place_next : {A : Type 0} → List ℕ → Next A → ℕ → ℕ → ℕ → List Row → ℕ
place_next s (asks h r k z) place u n l = place_run s (read r k z) place u n h l
place_next s (tells h r p) place u n l = place_run s (write r p) place u n h l
place_next s (over h a) place u n l = place
place_next s (refused h c) place u n l = place

-- how many turns a plan takes on a script, given endless room: its readings and its rows
unfoldable pub span : {A : Type 0} → List ℕ → Plan A → ℕ → Line → ℕ
span s (give a) u h = 0
span s (refuse c) u h = 0
span s (read r k z) u h = suc (cond (ltb u (length s)) (span s (k (get_or s u 0)) (u + 1) h) (span s z u h))
span s (write r p) u h = suc (span s p u (noted r h))
span s (look k) u h = span s (k h) u h
span s (hold h' p) u h = span s p u h'

unfoldable pub next_span : {A : Type 0} → List ℕ → Next A → ℕ → ℕ
next_span s (asks h r k z) u = span s (read r k z) u h
next_span s (tells h r p) u = span s (write r p) u h
next_span s (over h a) u = 0
next_span s (refused h c) u = 0

-- how many words a read of so many bytes takes: 128 for each block, none unless it was accepted
unfoldable pub count_of : Answer → ℕ → ℕ
count_of Answered.Accepted bytes = 128 * (bytes / 512)
count_of (Answered.Refused e) bytes = 0
count_of Answered.ScriptEnded bytes = 0
count_of Answered.TraceFull bytes = 0
count_of Answered.BadBook bytes = 0
