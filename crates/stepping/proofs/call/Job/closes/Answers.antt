use Rattle.stepping.proofs.Standing as S
use Rattle.stepping.proofs.call.Job.closes.Goals as goal

pub returns : goal.returns
returns c = λ held g h. S.closes c.args.self c.args.known h held g _
