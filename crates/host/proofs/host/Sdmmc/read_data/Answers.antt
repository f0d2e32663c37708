use mathlib.Core.List.{List, []}
use mathlib.Core.Path.{refl, ap, sym, ◌∙◌}
use Prim.Native.Nat.{ℕ}
use Rattle.bus.specs.Transfer.{incoming}
use Rattle.host.specs.Calls.{blocks_plan, blocks_next, blocks_filled}
use Rattle.host.proofs.Laying.{none_filled}
use Rattle.host.proofs.Ran.{data-told, data-taken, accepted-told}
use Rattle.host.proofs.host.Sdmmc.read_data.Goals as goal

pub returns-in-Ok : goal.returns-in-Ok
returns-in-Ok c = let host = c.args.self in
    let plan = blocks_plan host incoming c.args.address c.args.blocks in
    let gave = (rw (c.blocks_transfer-asked.ensures []) at c.in-Ok.ensures.took).gave in
    let came = data-told host plan (blocks_next host) _ {r = c.called.result} refl gave (accepted-told _ _ _ _ _ _ (rw c.with.ensures at c.called.ensures)) in
    record {
      answered = came.0;
      listed = came.1;
      filled = c.fill_blocks.ensures ∙ ap (λ (ws : List ℕ). blocks_filled ws c.args.buffer.now) (data-taken host plan (blocks_next host) _ refl gave);
    }

pub returns-in-Err : goal.returns-in-Err
returns-in-Err c = let host = c.args.self in
    let plan = blocks_plan host incoming c.args.address c.args.blocks in
    let gave = (rw (c.blocks_transfer-asked.ensures []) at c.in-Err.ensures.took).gave in
    let came = data-told host plan (blocks_next host) _ {r = c.ends_without.result} refl gave (c.ends_without.ensures _ _ _) in
    record {
      answered = came.0;
      listed = came.1;
      filled = sym (none_filled c.args.buffer.now) ∙ ap (λ (ws : List ℕ). blocks_filled ws c.args.buffer.now) (data-taken host plan (blocks_next host) _ refl gave);
    }
