use Rattle.step.specs.Transfer.{data_plan}
use Rattle.step.proofs.Phases as P
use Rattle.step.proofs.ready.Bus.readied.Goals as goal

pub returns-then-sends : goal.returns-then-sends
unfolding data_plan
returns-then-sends c = λ ws h. P.readied_sends c.args.self c.args.phase h ws (rw c.sends.ensures at c.if-sends.true)

pub returns-else-sends : goal.returns-else-sends
unfolding data_plan
returns-else-sends c = λ ws h. P.readied_reads c.args.self c.args.phase h ws (rw c.sends.ensures at c.if-sends.false)
