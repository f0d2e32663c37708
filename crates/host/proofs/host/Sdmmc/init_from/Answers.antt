use mathlib.Core.Path.{◌≡◌, ap, sym, ◌∙◌}
use mathlib.Core.List.{List, []}
use Prim.Native.Nat.{ℕ}
use Rattle.std.specs.Prelude.{Ok}
use Rattle.types.specs.declared.card.Card.{Card}
use Rattle.types.specs.declared.clock.Clock.{Clock}
use Rattle.tape.specs.declared.progress.Head.{Head}
use Rattle.tape.specs.declared.progress.Line.{Line}
use Rattle.tape.specs.declared.rows.Row.{Row}
use Rattle.tape.specs.Layout.{rows_in}
use Rattle.tape.specs.Run.{After, run}
use Rattle.init.specs.Initialise.{no_card, initialise}
use Rattle.host.specs.declared.host.Called.{Called}
use Rattle.host.specs.declared.host.Sdmmc.{Sdmmc}
use Rattle.host.specs.Calls.{Came, called_of, fresh_line, dropped, holding, ends, init_from}
use Rattle.host.proofs.Ran.{from_start, ends-list, accepted-told}
use Rattle.host.proofs.host.Sdmmc.init_from.Goals as goal

-- what an initialisation comes to, from what its plan came to
abbrev came : Sdmmc → After Card → Came
came host x = ends host (dropped host x.state) (holding host x.state x.value) [] x.state.progress.pace x.state

abbrev begins : Line → Head
begins line = record { used = 0; rows = 0; line = line }

module _ (host : Sdmmc) (frequency : ℕ) (c : Clock) (s : List ℕ) (l : List Row) where
  told : {x : After Card} {r : Called} → x ≡ run s no_card (initialise host.settings c frequency) 0 0 (fresh_line c.frequency) l → r ≡ called_of (came host x)
      → (r ≡ called_of (init_from host frequency (Ok c) s l)) × (x.state.list ≡ (init_from host frequency (Ok c) s l).list)
  unfolding init_from
  told {x} ran e = (
    e ∙ ap (λ (z : After Card). called_of (came host z)) ran,
    sym (ends-list host (dropped host x.state) (holding host x.state x.value) [] x.state.progress.pace x.state) ∙ ap (λ (z : After Card). (came host z).list) ran,
  )

pub returns-in-Ok : goal.returns-in-Ok
returns-in-Ok c = let first = c.start-head.ensures ∙ ap begins c.fresh_line.ensures in
    let came = told c.args.self c.args.frequency.0 c.args.initial c.args.script.now (rows_in c.args.rows.now) {r = c.called.result}
    (from_start (rw first at c.in-Ok.ensures).gave) (accepted-told _ _ _ _ _ _ (rw c.with.ensures at c.called.ensures)) in
    record { answered = came.0; listed = came.1 }

pub returns-in-Err : goal.returns-in-Err
returns-in-Err c = let first = c.start-head.ensures ∙ ap begins c.fresh_line.ensures in
    let came = told c.args.self c.args.frequency.0 c.args.initial c.args.script.now (rows_in c.args.rows.now) {r = c.ends_without.result}
    (from_start (rw first at c.in-Err.ensures).gave) (c.ends_without.ensures _ _ _) in
    record { answered = came.0; listed = came.1 }
