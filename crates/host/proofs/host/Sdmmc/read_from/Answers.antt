use mathlib.Core.List.{List, []}
use mathlib.Core.Path.{refl, ap, sym, ◌∙◌}
use Prim.Native.Nat.{ℕ}
use Rattle.bus.specs.Transfer.{incoming}
use Rattle.host.specs.Calls.{Came, called_of, blocks_plan, blocks_next, blocks_filled, blocks_from}
use Rattle.host.proofs.Laying.{none_filled}
use Rattle.host.proofs.Ran.{ends-list, ends-taken, kept-none, going_on, stopped-there}
use Rattle.host.proofs.host.Sdmmc.read_from.Goals as goal

pub returns-in-Ok : goal.returns-in-Ok
unfolding blocks_from
returns-in-Ok c = let host = c.args.self in
    let got = c.read_data.ensures in
    let came = going_on host (blocks_plan host incoming c.args.address c.args.blocks) (blocks_next host) _ _ _ (rw c.start-head.ensures at c.in-Ok.ensures).gave refl in
    record { answered = got.answered ∙ ap called_of came; listed = got.listed ∙ ap (λ (x : Came). x.list) came; filled = got.filled ∙ ap (λ (x : Came). blocks_filled x.taken c.args.buffer.now) came }

pub returns-in-Err : goal.returns-in-Err
unfolding blocks_from
returns-in-Err c = let host = c.args.self in
    let buffer = c.args.buffer.now in
    let came = stopped-there host (blocks_plan host incoming c.args.address c.args.blocks) (blocks_next host) _ _ _ (rw c.start-head.ensures at c.in-Err.ensures).gave _ refl in record {
      answered = c.ends_before.ensures _ ∙ ap called_of came;
      listed = sym (ends-list host _ host _ _ _) ∙ ap (λ (x : Came). x.list) came;
      filled = sym (none_filled buffer)
          ∙ ap (λ (w : List ℕ). blocks_filled w buffer) (sym (ends-taken host _ host [] _ _ (kept-none _)))
          ∙ ap (λ (x : Came). blocks_filled x.taken buffer) came;
    }
