use Rattle.bus.proofs.command.send.Goals as goal

pub returns : goal.returns
returns c = c.command.ensures _ c.rest-rest.ensures.part
