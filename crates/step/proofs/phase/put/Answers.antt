use borrow.Author.Tests.{lt-ltb, le-ltb}
use Rattle.step.specs.Transfer.{put_at}
use borrow.Author.Rules.{rules}
use Rattle.step.proofs.phase.put.Goals as goal

pub returns-then-k-lt16 : goal.returns-then-k-lt16
unfolding put_at
returns-then-k-lt16 c = record { set = rw (lt-ltb _ _ c.if-k-lt16.true); long = search rules }

pub returns-else-k-lt16 : goal.returns-else-k-lt16
unfolding put_at
returns-else-k-lt16 c = record { set = rw (le-ltb _ _ c.if-k-lt16.false); long = search rules }
