use Rattle.stepping.specs.Ahead.{forgiven}
use Rattle.stepping.proofs.initialise.forgives.Goals as goal

pub returns-in-Cmd0 : goal.returns-in-Cmd0
unfolding forgiven
returns-in-Cmd0 c = rw c.in-Cmd0.is

pub returns-in-Cmd8 : goal.returns-in-Cmd8
unfolding forgiven
returns-in-Cmd8 c = rw c.in-Cmd8.is c.excused.ensures

pub returns-in-Power55 : goal.returns-in-Power55
unfolding forgiven
returns-in-Power55 c = rw c.in-Power55.is

pub returns-in-Power41 : goal.returns-in-Power41
unfolding forgiven
returns-in-Power41 c = rw c.in-Power41.is

pub returns-in-Cmd2 : goal.returns-in-Cmd2
unfolding forgiven
returns-in-Cmd2 c = rw c.in-Cmd2.is

pub returns-in-Cmd3 : goal.returns-in-Cmd3
unfolding forgiven
returns-in-Cmd3 c = rw c.in-Cmd3.is

pub returns-in-Cmd9 : goal.returns-in-Cmd9
unfolding forgiven
returns-in-Cmd9 c = rw c.in-Cmd9.is

pub returns-in-Cmd7 : goal.returns-in-Cmd7
unfolding forgiven
returns-in-Cmd7 c = rw c.in-Cmd7.is

pub returns-in-Cmd16 : goal.returns-in-Cmd16
unfolding forgiven
returns-in-Cmd16 c = rw c.in-Cmd16.is

pub returns-in-Scr55 : goal.returns-in-Scr55
unfolding forgiven
returns-in-Scr55 c = rw c.in-Scr55.is

pub returns-in-Width55 : goal.returns-in-Width55
unfolding forgiven
returns-in-Width55 c = rw c.in-Width55.is

pub returns-in-Width6 : goal.returns-in-Width6
unfolding forgiven
returns-in-Width6 c = rw c.in-Width6.is
