-- Each call as one plan, from its first check to its end, which says how it ended: the answer, the next host, and the words that
-- it gives. They are the plans of the host's own calls, joined; whether a refusal keeps the record is where it comes.
use Rattle.std.specs.Prelude.{ℕ, ◌/◌, cond, false, ◌||◌, List, eqb, ltb, Result, Ok, Err}
use Rattle.types.specs.declared.error.Error.{Error}
use Rattle.types.specs.declared.clock.Clock.{Clock}
use Rattle.types.specs.declared.error.Error.TheVariants as E
use Rattle.types.specs.Leaf.{clock_of}
use Rattle.tape.specs.declared.progress.Line.{Line}
use Rattle.tape.specs.Plan.{Nothing, Plan, failed, hold, handle}
use Rattle.bus.specs.Command.{app_command}
use Rattle.bus.specs.Ready.{wait_ready}
use Rattle.bus.specs.Transfer.{Buffer}
use Rattle.init.specs.Initialise.{source_of, limit_of, initialise}
use Rattle.host.specs.declared.host.Sdmmc.{Sdmmc}
use Rattle.host.specs.Calls.{fresh_line, blocks_plan, blocks_judged, sends, status_plan}
use Rattle.stepping.specs.Closing.{Closing, keeping, dropping, finding, accepting, blocks_host, status_host}

module _ (host : Sdmmc) where
  -- an initialisation with this clock of identification: it holds a fresh line before its first row
  abbrev pub init_from : Clock → ℕ → Plan Closing
  init_from c frequency =
      hold (fresh_line c.frequency) (handle (finding host) (dropping host) (initialise host.settings c frequency))

  unfoldable pub init_at : ℕ → Result Clock Error → Plan Closing
  init_at frequency (Err e) = keeping host (failed e)
  init_at frequency (Ok c) = init_from c frequency

  -- 17 for an asked frequency of 0 or over 50,000,000
  unfoldable pub init_call : ℕ → Plan Closing
  init_call frequency =
      cond (eqb frequency 0 || ltb 50_000_000 frequency) (keeping host (failed E.BadClock))
      (init_at frequency (clock_of (source_of host.settings) 400_000 false))

  -- an approach, whose refusals keep the record, and a data phase, whose refusals leave none
  abbrev pub call_plan : Plan Nothing → Plan (List ℕ) → (Line → List ℕ → Sdmmc) → Plan Closing
  call_plan approach transfer next = handle (λ _. handle (accepting host next) (dropping host) transfer) (keeping host) approach

  -- a read or a write
  abbrev pub blocks_from : Buffer → ℕ → ℕ → Plan Closing
  blocks_from buffer address blocks =
      call_plan (wait_ready (source_of host.settings) host.settings.config host.card.rca) (blocks_plan host buffer address blocks)
      (blocks_host host)

  unfoldable pub blocks_at : Buffer → ℕ → Result ℕ Error → Plan Closing
  blocks_at buffer blocks (Err e) = keeping host (failed e)
  blocks_at buffer blocks (Ok a) = blocks_from buffer a blocks

  -- judged as the host's own
  unfoldable pub blocks_call : Buffer → ℕ → ℕ → Plan Closing
  blocks_call buffer index bytes = blocks_at buffer (bytes / 512) (blocks_judged host (sends buffer) index bytes)

  -- 16; CMD55, and the data phase
  abbrev pub status_from : Plan Closing
  status_from = call_plan (app_command (limit_of host.settings) host.card.rca) (status_plan host) (status_host host)

  unfoldable pub status_call : Plan Closing
  status_call = cond host.known status_from (keeping host (failed E.NoCard))
