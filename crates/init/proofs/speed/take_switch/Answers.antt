use Rattle.tape.specs.Layout.{rows_in}
use mathlib.Core.Path.{ap, ◌∙◌}
use Rattle.init.specs.Initialise.{switched, take_switch}
use Rattle.init.proofs.Sixteen.{switched_sixteen}
use Rattle.tape.proofs.Took.{next, carry, cut, looks}
use Rattle.init.proofs.speed.take_switch.Goals as goal

pub returns-in_err-read : goal.returns-in_err-read
unfolding take_switch
returns-in_err-read c = cut _ c.in_err-read.ensures.took c.from_residual.ensures.1

pub returns-in_err-ensure : goal.returns-in_err-ensure
unfolding take_switch
returns-in_err-ensure c =
    let s = c.args.script.now in
    let h = c.blocking_data.new.head in
    let l = rows_in c.blocking_data.new.rows in
    let taken = c.took.ensures ∙ ap switched c.sixteen.ensures ∙ switched_sixteen _ in
    carry _ c.in_ok-read.ensures.took (cut _ (rw taken at (c.in_err-ensure.ensures s h l)) c.from_residual-in_err-ensure.ensures.1)

pub returns-in_err-clock_delay : goal.returns-in_err-clock_delay
unfolding take_switch
returns-in_err-clock_delay c =
    let s = c.args.script.now in
    let h = c.blocking_data.new.head in
    let l = rows_in c.blocking_data.new.rows in
    let taken = c.took.ensures ∙ ap switched c.sixteen.ensures ∙ switched_sixteen _ in
    carry _ c.in_ok-read.ensures.took (next (rw taken at (c.in_ok-ensure.ensures s h l))
    (cut _ (looks _ (c.in_err-clock_delay.ensures _)) c.from_residual-in_err-clock_delay.ensures.1))

pub returns-in_err-set_clock : goal.returns-in_err-set_clock
unfolding take_switch
returns-in_err-set_clock c =
    let s = c.args.script.now in
    let h = c.blocking_data.new.head in
    let l = rows_in c.blocking_data.new.rows in
    let taken = c.took.ensures ∙ ap switched c.sixteen.ensures ∙ switched_sixteen _ in
    carry _ c.in_ok-read.ensures.took (next (rw taken at (c.in_ok-ensure.ensures s h l))
    (next (looks _ (c.in_ok-clock_delay.ensures _))
    (cut _ (rw c.min-requested.ensures at c.in_err-set_clock.ensures) c.from_residual-in_err-set_clock.ensures.1)))

pub returns : goal.returns
unfolding take_switch
returns c =
    let s = c.args.script.now in
    let h = c.blocking_data.new.head in
    let l = rows_in c.blocking_data.new.rows in
    let taken = c.took.ensures ∙ ap switched c.sixteen.ensures ∙ switched_sixteen _ in
    carry _ c.in_ok-read.ensures.took (next (rw taken at (c.in_ok-ensure.ensures s h l))
    (next (looks _ (c.in_ok-clock_delay.ensures _))
    (next (rw c.min-requested.ensures at c.in_ok-set_clock.ensures) (c.hold_signalling.ensures _ _))))
