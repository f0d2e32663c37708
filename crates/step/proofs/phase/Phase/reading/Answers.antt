use Rattle.step.specs.Transfer.{reading_at}
use Rattle.step.proofs.phase.Phase.reading.Goals as goal

pub returns-in-Idle : goal.returns-in-Idle
unfolding reading_at
returns-in-Idle c = rw c.in-Idle.is

pub returns-in-First : goal.returns-in-First
unfolding reading_at
returns-in-First c = rw c.in-First.is

pub returns-in-FirstDma : goal.returns-in-FirstDma
unfolding reading_at
returns-in-FirstDma c = rw c.in-FirstDma.is

pub returns-in-Again : goal.returns-in-Again
unfolding reading_at
returns-in-Again c = rw c.in-Again.is

pub returns-in-AgainDma : goal.returns-in-AgainDma
unfolding reading_at
returns-in-AgainDma c = rw c.in-AgainDma.is

pub returns-in-Count : goal.returns-in-Count
unfolding reading_at
returns-in-Count c = rw c.in-Count.is

pub returns-in-Word : goal.returns-in-Word
unfolding reading_at
returns-in-Word c = rw (c.in-Word.is, c.place-place.ensures)
