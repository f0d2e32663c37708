use mathlib.Core.List.{List}
use mathlib.Core.Path.{◌≡◌, refl, ap, ◌∙◌}
use Prim.Native.Nat.{ℕ}
use Rattle.types.specs.Words.{counted, sd_status_of}
use Rattle.tape.specs.Layout.{rows_in}
use Rattle.tape.specs.Run.{going_at}
use Rattle.init.specs.Lent.{sixteen_of}
use Rattle.host.specs.Calls.{status_plan, status_next}
use Rattle.host.proofs.Ran.{data-told, accepted-told}
use Rattle.host.proofs.host.Sdmmc.status_data.Goals as goal

-- the status of the first sixteen words is that of the words
status_sixteen : (ws : List ℕ) → sd_status_of (sixteen_of ws) ≡ sd_status_of ws
unfolding sd_status_of sixteen_of counted
status_sixteen ws = refl

pub returns-in-Ok : goal.returns-in-Ok
returns-in-Ok c = let host = c.args.self in
    let ws = c.in-Ok.words.now in
    let status = c.sd_status-status.ensures ∙ ap sd_status_of c.sixteen.ensures ∙ status_sixteen ws in
    let left = going_at c.blocking_data.new.head (rows_in c.blocking_data.new.rows) in
    let next : c.with-next.result ≡ status_next host left ws = rw (c.with_status.ensures, status) at c.with-next.ensures in
    let came = data-told host (status_plan host) (status_next host) _ {r = c.called.result} refl c.in-Ok.ensures.took.gave (accepted-told _ _ _ _ _ _ (rw next at c.called.ensures)) in
    record { answered = came.0; listed = came.1 }

pub returns-in-Err : goal.returns-in-Err
returns-in-Err c = let host = c.args.self in
    let came = data-told host (status_plan host) (status_next host) _ {r = c.ends_without.result} refl c.in-Err.ensures.took.gave (c.ends_without.ensures _ _ _) in
    record { answered = came.0; listed = came.1 }
