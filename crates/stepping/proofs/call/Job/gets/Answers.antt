use Rattle.stepping.proofs.Standing as S
use Rattle.stepping.proofs.call.Job.gets.Goals as goal

pub returns : goal.returns
returns c = λ held g h. S.gets_on c.args.self c.args.known h held g _ _ (rw (c.bus-bus.ensures, c.rca.ensures, c.phase-phase.ensures) at c.begin_data.ensures)
