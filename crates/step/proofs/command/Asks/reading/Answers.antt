use Rattle.step.specs.Command.{reading_of}
use Rattle.step.proofs.command.Asks.reading.Goals as goal

pub returns-in-Idle : goal.returns-in-Idle
unfolding reading_of
returns-in-Idle c = rw c.in-Idle.is

pub returns-in-Poll : goal.returns-in-Poll
unfolding reading_of
returns-in-Poll c = rw c.in-Poll.is

pub returns-in-Echo : goal.returns-in-Echo
unfolding reading_of
returns-in-Echo c = rw c.in-Echo.is

pub returns-in-First : goal.returns-in-First
unfolding reading_of
returns-in-First c = rw c.in-First.is

pub returns-in-Second : goal.returns-in-Second
unfolding reading_of
returns-in-Second c = rw c.in-Second.is

pub returns-in-Third : goal.returns-in-Third
unfolding reading_of
returns-in-Third c = rw c.in-Third.is

pub returns-in-Fourth : goal.returns-in-Fourth
unfolding reading_of
returns-in-Fourth c = rw c.in-Fourth.is
