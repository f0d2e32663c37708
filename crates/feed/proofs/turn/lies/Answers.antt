use borrow.Author.Tests.{eq-eqb, ne_eqb}
use Rattle.feed.specs.Runs.{lies_at}
use Rattle.feed.proofs.turn.lies.Goals as goal

pub returns-in-Status : goal.returns-in-Status
unfolding lies_at
returns-in-Status c = rw c.in-Status.is

pub returns-in-RespCmd : goal.returns-in-RespCmd
unfolding lies_at
returns-in-RespCmd c = rw c.in-RespCmd.is

pub returns-in-Response : goal.returns-in-Response
unfolding lies_at
returns-in-Response c = rw c.in-Response.is

pub returns-in-Dma : goal.returns-in-Dma
unfolding lies_at
returns-in-Dma c = rw c.in-Dma.is

pub returns-in-DCount : goal.returns-in-DCount
unfolding lies_at
returns-in-DCount c = rw c.in-DCount.is

pub returns-then-k-eq0 : goal.returns-then-k-eq0
unfolding lies_at
returns-then-k-eq0 c = rw (c.in-Data.is, eq-eqb _ _ c.if-k-eq0.true)

pub returns-else-k-eq0 : goal.returns-else-k-eq0
unfolding lies_at
returns-else-k-eq0 c = rw (c.in-Data.is, ne_eqb _ _ c.if-k-eq0.false)
