use mathlib.Core.Path.{refl, ap, sym, ◌∙◌}
use Rattle.types.specs.Words.{words_of}
use Rattle.bus.specs.Transfer.{outgoing}
use Rattle.host.specs.Calls.{Came, called_of, blocks_plan, blocks_next, blocks_from}
use Rattle.host.proofs.Ran.{ends-list, going_on, stopped-there}
use Rattle.host.proofs.host.Sdmmc.write_from.Goals as goal

pub returns-in-Ok : goal.returns-in-Ok
unfolding blocks_from
returns-in-Ok c = let host = c.args.self in
    let got = c.write_data.ensures in
    let came = going_on host (blocks_plan host (outgoing (words_of c.args.data.now)) c.args.address c.args.blocks) (blocks_next host) _ _ _ (rw c.start-head.ensures at c.in-Ok.ensures).gave refl in
    record { answered = got.answered ∙ ap called_of came; listed = got.listed ∙ ap (λ (x : Came). x.list) came }

pub returns-in-Err : goal.returns-in-Err
unfolding blocks_from
returns-in-Err c = let host = c.args.self in
    let came = stopped-there host (blocks_plan host (outgoing (words_of c.args.data.now)) c.args.address c.args.blocks) (blocks_next host) _ _ _ (rw c.start-head.ensures at c.in-Err.ensures).gave _ refl in
    record { answered = c.ends_before.ensures _ ∙ ap called_of came; listed = sym (ends-list host _ host _ _ _) ∙ ap (λ (x : Came). x.list) came }
