use mathlib.Core.Path.{◌≡◌, refl, ap}
use native.Mathlib.Omega.{arith}
use Prim.Native.Nat.{◌*◌}
use mathlib.Core.List.{[]}
use Rattle.types.specs.Words.{words_of}
use Rattle.bus.specs.declared.transfer.Transfer.{Transfer}
use Rattle.bus.specs.Transfer.{outgoing}
use Rattle.host.specs.Calls.{blocks_plan, blocks_next}
use Rattle.host.proofs.Ran.{data-told, accepted-told}
use Rattle.host.proofs.host.Sdmmc.write_data.Goals as goal

pub blocking_send-requires : goal.blocking_send-requires
blocking_send-requires c = let words : c.blocks_transfer-asked.result.words ≡ 128 * c.args.blocks = ap (λ (x : Transfer). x.words) (c.blocks_transfer-asked.ensures []) in
    omega (arith, words, c.requires)

pub returns-in-Ok : goal.returns-in-Ok
returns-in-Ok c = let host = c.args.self in
    let ws = words_of c.args.data.now in
    let came = data-told host (blocks_plan host (outgoing ws) c.args.address c.args.blocks) (blocks_next host) _ {r = c.called.result} refl
    (rw (c.blocks_transfer-asked.ensures ws) at c.in-Ok.ensures).gave (accepted-told _ _ _ _ _ _ (rw c.with.ensures at c.called.ensures)) in
    record { answered = came.0; listed = came.1 }

pub returns-in-Err : goal.returns-in-Err
returns-in-Err c = let host = c.args.self in
    let ws = words_of c.args.data.now in
    let came = data-told host (blocks_plan host (outgoing ws) c.args.address c.args.blocks) (blocks_next host) _ {r = c.ends_without.result} refl
    (rw (c.blocks_transfer-asked.ensures ws) at c.in-Err.ensures).gave (c.ends_without.ensures _ _ _) in
    record { answered = came.0; listed = came.1 }
