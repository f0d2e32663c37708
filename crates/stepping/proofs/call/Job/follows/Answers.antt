use Rattle.stepping.proofs.call.Job.follows.Goals as goal

pub returns : goal.returns
returns c = λ held g h gate. c.stands.ensures held g h gate
