-- A read, a write and a status call leave clock, signalling and gate as they were: of what the host holds of its line, their plans
-- change no more than CLKCR, by its rows.
use Rattle.std.specs.Prelude.{Result, Ok, Err}
use Rattle.types.specs.declared.error.Error.{Error}
use Prim.Native.Nat.{ℕ, ◌/◌}
use mathlib.Core.List.{List, []}
use mathlib.Core.Path.{◌≡◌, refl}
use lib.ListN.{length}
use Rattle.types.specs.Words.{words_of}
use Rattle.tape.specs.declared.progress.Halt.TheVariants.{Refused, ScriptEnded, TraceFull}
use Rattle.tape.specs.declared.progress.Line.{Line}
use Rattle.tape.specs.Pace.{Pace}
use Rattle.tape.specs.Pace.{Going, Stopped}
use Rattle.tape.specs.declared.rows.Row.{Row}
use Rattle.tape.specs.Plan.{Nothing, Plan}
use Rattle.tape.specs.Run.{State, noted, run, run_from}
use Rattle.tape.proofs.Laws.{by_cases}
use Rattle.tape.proofs.Walk.{Rule, Obeys, run-obeys}
use Rattle.bus.specs.Command.{app_command}
use Rattle.bus.specs.Ready.{wait_ready}
use Rattle.bus.specs.declared.transfer.Transfer.{Transfer}
use Rattle.bus.specs.Transfer.{Buffer, incoming, outgoing, blocking_data}
use Rattle.bus.proofs.Walks.{app-obeys, ready-obeys, data_obeys}
use Rattle.init.specs.Initialise.{source_of, limit_of}
use Rattle.host.specs.declared.host.Sdmmc.{Sdmmc}
use Rattle.host.specs.Calls.{Came, dropped, kept, ends, transferred, approached, served, blocks_transfer, blocks_plan, blocks_next, blocks_from, blocks_judged, sends, blocks_came, status_transfer, status_plan, status_next, status_came}
use Rattle.calls.specs.Serve as S
use Rattle.calls.specs.Serve.{comes, SameLine}

unmoved : {h : Line} → SameLine h h
unmoved = record { gated = refl; clock = refl; signalling = refl }

noted-same : (line : Line) (r : Row) (h : Line) → SameLine line h → SameLine line (noted r h)
unfolding noted
noted-same line r h i = record { gated = i.gated; clock = i.clock; signalling = i.signalling }

-- a call keeps to the line that it found, whatever it writes and is refused with
abbrev line_rule : Line → Rule
line_rule line = record { holds = λ h. SameLine line h; writes = λ r. Unit {0}; refuses = λ e. Unit {0}; noted = noted-same line }

ends_steady : (host refused accepted : Sdmmc) (words : List ℕ) (q : Pace) (w : State)
    → SameLine host.line refused.line → SameLine host.line accepted.line → SameLine host.line (ends host refused accepted words q w).host.line
unfolding ends
ends_steady host refused accepted words Going w r a = a
ends_steady host refused accepted words (Stopped (Refused e)) w r a = r
ends_steady host refused accepted words (Stopped ScriptEnded) w r a = r
ends_steady host refused accepted words (Stopped TraceFull) w r a = unmoved

served_steady : (host : Sdmmc) (plan : Plan Nothing) (transfer : Plan (List ℕ)) (next : State → List ℕ → Sdmmc) (s : List ℕ) (l : List Row)
    → Obeys (line_rule host.line) Nothing plan → Obeys (line_rule host.line) (List ℕ) transfer → ((w : State) (ws : List ℕ) → (next w ws).line ≡ w.progress.line)
    → SameLine host.line (served host plan transfer next s l).host.line
unfolding served approached transferred
served_steady host plan transfer next s l p t e = by w.progress.pace
  where
    w : State
    w = (run s (tt {0}) plan 0 0 host.line l).state

    near : SameLine host.line w.progress.line
    near = (run-obeys (line_rule host.line) s (tt {0}) plan 0 0 host.line l p.each unmoved).line

    by : (q : Pace) → SameLine host.line (approached host transfer next s q w).host.line
    by Going =
        let x = run_from s [] transfer w in
        let far : SameLine host.line x.state.progress.line =
        (run-obeys (line_rule host.line) s [] transfer w.progress.used w.progress.rows w.progress.line w.list t.each near).line in
        ends_steady host (dropped host x.state) (next x.state x.value) x.value x.state.progress.pace x.state far (rw (e x.state x.value) far)
    by (Stopped h) = ends_steady host (kept host w) host [] (Stopped h) w near unmoved

data_steady : (host : Sdmmc) (buffer : Buffer) (transfer : Transfer) → Obeys (line_rule host.line) (List ℕ) (blocking_data (source_of host.settings) host.settings.config buffer transfer host.card.rca)
data_steady host buffer transfer = data_obeys (line_rule host.line) (λ e o. tt) (λ r o. tt) (λ r. tt) _ _ buffer transfer _

-- 'a status read that also changes the clock' is none of ours
pub status_keeps_the_clock : (host : Sdmmc) (s : List ℕ) (l : List Row) → SameLine host.line (comes host (S.status s l)).host.line
unfolding comes status_came
status_keeps_the_clock host s l =
    by_cases (λ (x : Came). SameLine host.line x.host.line) host.known _ _
    (served_steady host (app_command (limit_of host.settings) host.card.rca) (status_plan host) (status_next host) s l
    (app-obeys (line_rule host.line) (λ e o. tt) (λ r o. tt) tt _ _) (data_steady host incoming status_transfer) (λ w ws. refl))
    unmoved

blocks_steady : (host : Sdmmc) (buffer : Buffer) (index bytes : ℕ) (s : List ℕ) (l : List Row) → SameLine host.line (blocks_came host buffer index bytes s l).host.line
unfolding blocks_came blocks_from
blocks_steady host buffer index bytes s l = by (blocks_judged host (sends buffer) index bytes)
  where
    by : (a : Result ℕ Error) → SameLine host.line (blocks_from host buffer (bytes / 512) a s l).host.line
    by (Err e) = unmoved
    by (Ok a) =
        served_steady host (wait_ready (source_of host.settings) host.settings.config host.card.rca) (blocks_plan host buffer a (bytes / 512)) (blocks_next host) s l
        (ready-obeys (line_rule host.line) (λ e o. tt) (λ r o. tt) _ _ _) (data_steady host buffer (blocks_transfer buffer a (bytes / 512))) (λ w ws. refl)

pub read_keeps_the_clock : (host : Sdmmc) (index bytes : ℕ) (s : List ℕ) (l : List Row) → SameLine host.line (comes host (S.read index bytes s l)).host.line
unfolding comes
read_keeps_the_clock host index bytes s l = blocks_steady host incoming index bytes s l

pub write_keeps_the_clock : (host : Sdmmc) (index : ℕ) (bytes s : List ℕ) (l : List Row) → SameLine host.line (comes host (S.write index bytes s l)).host.line
unfolding comes
write_keeps_the_clock host index bytes s l = blocks_steady host (outgoing (words_of bytes)) index (length bytes) s l
