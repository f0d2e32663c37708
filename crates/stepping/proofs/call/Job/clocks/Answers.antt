use Rattle.stepping.proofs.call.Job.clocks.Goals as goal

pub returns : goal.returns
returns c = c.clock_setting.ensures
