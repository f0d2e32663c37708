use mathlib.Core.Path.{refl, ap, sym, ◌∙◌}
use Rattle.host.specs.Calls.{Came, called_of, status_plan, status_next}
use Rattle.host.proofs.Ran.{ends-list, going_on, stopped-there}
use Rattle.host.proofs.host.Sdmmc.status_from.Goals as goal

pub returns-in-Ok : goal.returns-in-Ok
returns-in-Ok c = let host = c.args.self in
    let came = going_on host (status_plan host) (status_next host) _ _ _ (rw c.start-head.ensures at c.in-Ok.ensures).gave refl in
    record { answered = c.status_data.ensures.answered ∙ ap called_of came; listed = c.status_data.ensures.listed ∙ ap (λ (x : Came). x.list) came }

pub returns-in-Err : goal.returns-in-Err
returns-in-Err c = let host = c.args.self in
    let came = stopped-there host (status_plan host) (status_next host) _ _ _ (rw c.start-head.ensures at c.in-Err.ensures).gave _ refl in
    record { answered = c.ends_before.ensures _ ∙ ap called_of came; listed = sym (ends-list host _ host _ _ _) ∙ ap (λ (x : Came). x.list) came }
