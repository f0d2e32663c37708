use Rattle.stepping.proofs.Follows as F
use Rattle.stepping.proofs.call.Job.opens.Goals as goal

pub returns-in-Ok : goal.returns-in-Ok
returns-in-Ok c = λ ws h. F.open_spins c.args.self c.args.known h ws _ (rw (c.initial-initial.ensures, c.in-Ok.is) at c.delay-answer.ensures)

pub returns-in-Err : goal.returns-in-Err
returns-in-Err c = λ ws h. F.open_refused c.args.self c.args.known h ws _ (rw (c.initial-initial.ensures, c.in-Err.is) at c.delay-answer.ensures)
