-- Each call as one plan, from its first check to its last row, so that what is said of a call's rows and words is said of one
-- run: a read, a write and a status call are served by two, the approach and the data phase.
use Rattle.std.specs.Prelude.{ℕ, ◌/◌, cond, ◌||◌, false, List, ◌≡◌, eqb, ltb, Result, Ok, Err}
use Rattle.types.specs.declared.clock.Clock.{Clock}
use Rattle.types.specs.declared.error.Error.{Error}
use Rattle.types.specs.declared.card.Card.{Card}
use Rattle.types.specs.declared.error.Answer.{Answer}
use Rattle.types.specs.declared.error.Answer.TheVariants as Answered
use Rattle.types.specs.declared.error.Error.TheVariants as E
use Rattle.types.specs.Leaf.{clock_of}
use Rattle.tape.specs.declared.progress.Halt.TheVariants.{Refused, ScriptEnded, TraceFull}
use Rattle.tape.specs.Pace.{Pace}
use Rattle.tape.specs.Pace.{Going, Stopped}
use Rattle.tape.specs.Plan.{Plan, hold, fail, ◌then◌}
use Rattle.tape.specs.Run.{After}
use Rattle.bus.specs.Command.{app_command}
use Rattle.bus.specs.Ready.{wait_ready}
use Rattle.bus.specs.Transfer.{Buffer}
use Rattle.init.specs.Initialise.{source_of, limit_of, initialise}
use Rattle.host.specs.declared.host.Sdmmc.{Sdmmc}
use Rattle.host.specs.Calls.{Came, fresh_line, blocks_judged, sends, blocks_plan, status_plan}

-- an initialisation holds a fresh line before its first row
unfoldable pub init_at : Sdmmc → ℕ → Result Clock Error → Plan Card
init_at host frequency (Err e) = fail e
init_at host frequency (Ok c) = hold (fresh_line c.frequency) (initialise host.settings c frequency)

unfoldable pub init_whole : Sdmmc → ℕ → Plan Card
init_whole host frequency =
    cond (eqb frequency 0 || ltb 50_000_000 frequency) (fail E.BadClock)
    (init_at host frequency (clock_of (source_of host.settings) 400_000 false))

unfoldable pub blocks_at : Sdmmc → Buffer → ℕ → Result ℕ Error → Plan (List ℕ)
blocks_at host buffer blocks (Err e) = fail e
blocks_at host buffer blocks (Ok a) =
    wait_ready (source_of host.settings) host.settings.config host.card.rca then λ _. blocks_plan host buffer a blocks

unfoldable pub blocks_whole : Sdmmc → Buffer → ℕ → ℕ → Plan (List ℕ)
blocks_whole host buffer index bytes = blocks_at host buffer (bytes / 512) (blocks_judged host (sends buffer) index bytes)

unfoldable pub status_whole : Sdmmc → Plan (List ℕ)
status_whole host =
    cond host.known (app_command (limit_of host.settings) host.card.rca then λ _. status_plan host) (fail E.NoCard)

-- the answer of a call whose plan has come so far
abbrev pub answer_of : Pace → Answer
answer_of Going = Answered.Accepted
answer_of (Stopped (Refused e)) = Answered.Refused e
answer_of (Stopped ScriptEnded) = Answered.ScriptEnded
answer_of (Stopped TraceFull) = Answered.TraceFull

-- a call did what its plan does: answer, words used, rows written, and the list
pub record Ran {A : Type 0} (x : Came) (y : After A) : Type 0 where
  pub answer : x.answer ≡ answer_of y.state.progress.pace
  pub words : x.words ≡ y.state.progress.used
  pub rows : x.rows ≡ y.state.progress.rows
  pub list : x.list ≡ y.state.list
