use mathlib.Core.Path.{ap, ◌∙◌}
use Rattle.step.specs.Context.{plug_next}
use Rattle.step.specs.Transfer.{ending, data_next}
use Rattle.step.proofs.Phases as P
use Rattle.step.proofs.ready.Bus.stopping.Goals as goal

pub returns-in-On : goal.returns-in-On
unfolding data_next
returns-in-On c = λ ws h gate. rw c.in-On.is (P.stopping-on _ _ h ws _)

pub returns-in-Ok : goal.returns-in-Ok
returns-in-Ok c = λ ws h gate. rw (c.in-Over.is, c.in-Ok.is) (c.waiting.ensures ws h ∙ ap (plug_next (ending c.args.self c.args.phase ws)) (c.tries.ensures h ∙ c.wait_ready.ensures h gate) ∙ P.stopping_well c.args.self c.args.phase h ws _)

pub returns-in-Err : goal.returns-in-Err
unfolding data_next
returns-in-Err c = λ ws h gate. rw (c.in-Over.is, c.in-Err.is) (c.drops.ensures ws h ∙ P.stopping_badly _ _ h ws _)
