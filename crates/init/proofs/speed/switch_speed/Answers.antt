use mathlib.Core.Path.{sym, ◌∙◌}
use Rattle.init.specs.Initialise.{switch_speed}
use Rattle.tape.proofs.Took.{gives, on_true, on_false}
use Rattle.init.proofs.speed.switch_speed.Goals as goal

pub returns-then-fast : goal.returns-then-fast
unfolding switch_speed
returns-then-fast c = on_true _ (sym c.fast.ensures ∙ c.if-fast.true) c.ask_switch.ensures

pub returns : goal.returns
unfolding switch_speed
returns c = on_false _ (sym c.fast.ensures ∙ c.if-fast.false) gives
