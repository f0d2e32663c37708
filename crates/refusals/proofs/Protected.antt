-- Write protection stops writes and nothing else (P8): whatever a card's flags are, a read and a status call come to what they
-- would come to with others, but for the flags in the record.
use Rattle.std.specs.Prelude.{Result, Ok, Err}
use Rattle.types.specs.declared.error.Error.{Error}
use Prim.Native.Nat.{ℕ, ◌/◌}
use mathlib.Core.Bool.{Bool, true, false, cond}
use mathlib.Core.List.{List, []}
use mathlib.Core.Path.{◌≡◌, refl}
use Rattle.types.specs.declared.error.Error.TheVariants as E
use Rattle.types.specs.declared.register.Protection.{Protection}
use Rattle.tape.specs.declared.progress.Halt.TheVariants.{Refused, ScriptEnded, TraceFull}
use Rattle.tape.specs.Pace.{Pace}
use Rattle.tape.specs.Pace.{Going, Stopped}
use Rattle.tape.specs.declared.rows.Row.{Row}
use Rattle.tape.specs.Plan.{Nothing, Plan}
use Rattle.tape.specs.Run.{State, run, run_from}
use Rattle.bus.specs.Command.{app_command}
use Rattle.bus.specs.Ready.{wait_ready}
use Rattle.bus.specs.Transfer.{incoming}
use Rattle.init.specs.Initialise.{source_of, limit_of}
use Rattle.host.specs.declared.host.Sdmmc.{Sdmmc}
use Rattle.host.specs.Calls.{Came, host_of, untouched, ends, transferred, approached, served}
use Rattle.host.specs.Calls.{blocks_judged, blocks_plan, blocks_from, blocks_came, read_came, status_plan, status_from, status_came}

-- two calls that answer, use, write and take the same
pub record Alike (x y : Came) : Type 0 where
  pub answer : x.answer ≡ y.answer
  pub words : x.words ≡ y.words
  pub rows : x.rows ≡ y.rows
  pub list : x.list ≡ y.list
  pub taken : x.taken ≡ y.taken

-- a host whose record has these flags, and is as before in all else
abbrev pub flagged : Sdmmc → Protection → Sdmmc
flagged host p =
    host_of host.settings host.line host.known
    (record {
      card_type = host.card.card_type;
      ocr = host.card.ocr;
      rca = host.card.rca;
      cid = host.card.cid;
      csd = host.card.csd;
      scr = host.card.scr;
      status = host.card.status;
      block_count = host.card.block_count;
      protection = p;
    })

-- a call's end is alike, whatever hosts it may leave
ends_alike : (h r a h' r' a' : Sdmmc) (words : List ℕ) (q : Pace) (w : State) → Alike (ends h r a words q w) (ends h' r' a' words q w)
unfolding ends
ends_alike h r a h' r' a' words Going w = record { answer = refl; words = refl; rows = refl; list = refl; taken = refl }
ends_alike h r a h' r' a' words (Stopped (Refused e)) w = record { answer = refl; words = refl; rows = refl; list = refl; taken = refl }
ends_alike h r a h' r' a' words (Stopped ScriptEnded) w = record { answer = refl; words = refl; rows = refl; list = refl; taken = refl }
ends_alike h r a h' r' a' words (Stopped TraceFull) w = record { answer = refl; words = refl; rows = refl; list = refl; taken = refl }

module _ (host : Sdmmc) (p : Protection) (s : List ℕ) (l : List Row) where
  served_alike : (approach : Plan Nothing) (transfer : Plan (List ℕ)) (next next' : State → List ℕ → Sdmmc)
      → Alike (served (flagged host p) approach transfer next s l) (served host approach transfer next' s l)
  unfolding served approached transferred
  served_alike approach transfer next next' = by w.progress.pace
    where
      w : State
      w = (run s (tt {0}) approach 0 0 host.line l).state

      by : (q : Pace) → Alike (approached (flagged host p) transfer next s q w) (approached host transfer next' s q w)
      by Going = ends_alike _ _ _ _ _ _ _ (run_from s [] transfer w).state.progress.pace (run_from s [] transfer w).state
      by (Stopped h) = ends_alike _ _ _ _ _ _ [] (Stopped h) w

  pub read_as_without : (index bytes : ℕ) → Alike (read_came (flagged host p) index bytes s l) (read_came host index bytes s l)
  unfolding blocks_came blocks_judged blocks_from
  read_as_without index bytes = by (blocks_judged host false index bytes)
    where
      by : (a : Result ℕ Error) → Alike (blocks_from (flagged host p) incoming (bytes / 512) a s l) (blocks_from host incoming (bytes / 512) a s l)
      by (Err e) = record { answer = refl; words = refl; rows = refl; list = refl; taken = refl }
      by (Ok a) =
          served_alike (wait_ready (source_of host.settings) host.settings.config host.card.rca) (blocks_plan host incoming a (bytes / 512)) _ _

  pub status_as_without : Alike (status_came (flagged host p) s l) (status_came host s l)
  unfolding status_came
  status_as_without = by host.known
    where
      by : (b : Bool)
          → Alike (cond b (status_from (flagged host p) s l) (untouched (flagged host p) E.NoCard l)) (cond b (status_from host s l) (untouched host E.NoCard l))
      by true = served_alike (app_command (limit_of host.settings) host.card.rca) (status_plan host) _ _
      by false = record { answer = refl; words = refl; rows = refl; list = refl; taken = refl }
