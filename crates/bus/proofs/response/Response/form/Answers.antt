use Rattle.bus.specs.Command.{form_of}
use Rattle.bus.proofs.response.Response.form.Goals as goal

pub returns-in-None : goal.returns-in-None
unfolding form_of
returns-in-None c = rw c.in-None.is

pub returns-in-R1 : goal.returns-in-R1
unfolding form_of
returns-in-R1 c = rw c.in-R1.is c.short.ensures

pub returns-in-R2 : goal.returns-in-R2
unfolding form_of
returns-in-R2 c = rw c.in-R2.is

pub returns-in-R3 : goal.returns-in-R3
unfolding form_of
returns-in-R3 c = rw c.in-R3.is

pub returns-in-R6 : goal.returns-in-R6
unfolding form_of
returns-in-R6 c = rw c.in-R6.is c.short-in-R6.ensures

pub returns-in-R7 : goal.returns-in-R7
unfolding form_of
returns-in-R7 c = rw c.in-R7.is c.short-in-R7.ensures
