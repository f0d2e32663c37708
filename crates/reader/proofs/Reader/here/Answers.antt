use borrow.Author.Tests.{lt-ltb, le-ltb}
use Rattle.reader.specs.Place.{word_at}
use Rattle.reader.proofs.Reader.here.Goals as goal

pub returns-then-self : goal.returns-then-self
unfolding word_at
returns-then-self c = rw (lt-ltb _ _ c.if-self.true)

pub returns-else-self : goal.returns-else-self
unfolding word_at
returns-else-self c = rw (le-ltb _ _ c.if-self.false)
