use Rattle.init.specs.Initialise.{settle_card}
use Rattle.tape.proofs.Took.{gives, next, carry, cut}
use Rattle.init.proofs.card.settle_card.Goals as goal

pub returns-in_err-scr : goal.returns-in_err-scr
unfolding settle_card
returns-in_err-scr c = cut _ c.in_err-scr.ensures c.from_residual.ensures.1

pub returns-in_err-set_width : goal.returns-in_err-set_width
unfolding settle_card
returns-in_err-set_width c = carry _ c.in_ok-scr.ensures (cut _ c.in_err-set_width.ensures c.from_residual-in_err-set_width.ensures.1)

pub returns-in_err-transfer_clock : goal.returns-in_err-transfer_clock
unfolding settle_card
returns-in_err-transfer_clock c = rw (← c.transfer_rate-encoded.ensures)
    (carry _ c.in_ok-scr.ensures (next c.in_ok-set_width.ensures (cut _ c.in_err-transfer_clock.ensures c.from_residual-in_err-transfer_clock.ensures.1)))

pub returns-in_err-switch_speed : goal.returns-in_err-switch_speed
unfolding settle_card
returns-in_err-switch_speed c = rw (← c.transfer_rate-encoded.ensures)
    (carry _ c.in_ok-scr.ensures (next c.in_ok-set_width.ensures
    (next c.in_ok-transfer_clock.ensures (cut _ c.in_err-switch_speed.ensures c.from_residual-in_err-switch_speed.ensures.1))))

pub returns : goal.returns
unfolding settle_card
returns c = rw (c.with_scr.ensures, ← c.transfer_rate-encoded.ensures)
    (carry _ c.in_ok-scr.ensures (next c.in_ok-set_width.ensures (next c.in_ok-transfer_clock.ensures (next c.in_ok-switch_speed.ensures gives))))
