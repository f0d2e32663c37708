use mathlib.Core.Path.{ap, sym, ◌∙◌}
use Rattle.init.specs.Initialise.{offered, ask_switch}
use Rattle.init.proofs.Sixteen.{offered_sixteen}
use Rattle.tape.proofs.Took.{gives, carry, cut, on_true, on_false}
use Rattle.init.proofs.speed.ask_switch.Goals as goal

pub returns-in_err-read : goal.returns-in_err-read
unfolding ask_switch
returns-in_err-read c = cut _ c.in_err-read.ensures.took c.from_residual.ensures.1

pub returns-then-offers : goal.returns-then-offers
unfolding ask_switch
returns-then-offers c = let says = sym (c.offers.ensures ∙ ap offered c.sixteen.ensures ∙ offered_sixteen _) ∙ c.if-offers.true in
    carry _ c.in_ok-read.ensures.took (on_true _ says c.take_switch.ensures)

pub returns : goal.returns
unfolding ask_switch
returns c = let says = sym (c.offers.ensures ∙ ap offered c.sixteen.ensures ∙ offered_sixteen _) ∙ c.if-offers.false in
    carry _ c.in_ok-read.ensures.took (on_false _ says gives)
