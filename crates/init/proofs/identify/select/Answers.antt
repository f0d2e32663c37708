use Rattle.tape.specs.Layout.{rows_in}
use Rattle.init.specs.Initialise.{no_blocks, select}
use Rattle.tape.proofs.Took.{gives, refuses, next, carry, cut}
use Rattle.init.proofs.identify.select.Goals as goal

pub returns-in_err-ensure : goal.returns-in_err-ensure
unfolding select
returns-in_err-ensure c = let csd = c.response_value-told.ensures in
    let s = c.args.script.now in
    let h = c.args.head.now in
    let l = rows_in c.args.rows.now in
    cut _ (rw (c.agree.ensures, csd) at (c.in_err-ensure.ensures s h l)) c.from_residual.ensures.1

pub returns-in_err-count : goal.returns-in_err-count
unfolding select
returns-in_err-count c = let csd = c.response_value-told.ensures in
    let s = c.args.script.now in
    let h = c.args.head.now in
    let l = rows_in c.args.rows.now in
    next (rw (c.agree.ensures, csd) at (c.in_ok-ensure.ensures s h l))
    (cut {d = no_blocks} _ (rw (← csd, ← c.in_err-count.ensures) refuses) c.from_residual-in_err-count.ensures.1)

pub returns-in_err-send : goal.returns-in_err-send
unfolding select
returns-in_err-send c = let csd = c.response_value-told.ensures in
    let s = c.args.script.now in
    let h = c.args.head.now in
    let l = rows_in c.args.rows.now in
    next (rw (c.agree.ensures, csd) at (c.in_ok-ensure.ensures s h l))
    (carry {d = no_blocks} _ {v = c.in_ok-count.count} (rw (← csd, ← c.in_ok-count.ensures) gives) (cut _ c.in_err-send.ensures c.from_residual-in_err-send.ensures.1))

pub returns : goal.returns
unfolding select
returns c = let csd = c.response_value-told.ensures in
    let s = c.args.script.now in
    let h = c.args.head.now in
    let l = rows_in c.args.rows.now in
    next (rw (c.agree.ensures, csd) at (c.in_ok-ensure.ensures s h l))
    (carry {d = no_blocks} _ {v = c.in_ok-count.count} (rw (← csd, ← c.in_ok-count.ensures) gives) (carry _ c.in_ok-send.ensures (rw c.described.ensures gives)))
