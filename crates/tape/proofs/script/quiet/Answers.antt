use borrow.Author.Tests.{eq-eqb, ne_eqb}
use Rattle.tape.proofs.Polls.{one-more-led, led-to-one, led-to-the-end}
use Rattle.tape.proofs.script.quiet.Goals as goal

pub returns-then-word-done-ne0 : goal.returns-then-word-done-ne0
returns-then-word-done-ne0 c = led-to-one c.most-count.ensures c.loop-i.invariant c.loop-i-test.true (rw (ne_eqb _ 0 c.if-word-done-ne0.true))

pub returns-then-word-wrong-ne0 : goal.returns-then-word-wrong-ne0
returns-then-word-wrong-ne0 c = led-to-one c.most-count.ensures c.loop-i.invariant c.loop-i-test.true
    (rw (eq-eqb _ 0 c.if-word-done-ne0.false, ne_eqb _ 0 c.if-word-wrong-ne0.true))

pub loop-i-preserved : goal.loop-i-preserved
loop-i-preserved c = one-more-led c.most-count.ensures c.loop-i.invariant c.loop-i-test.true
    (rw (eq-eqb _ 0 c.if-word-done-ne0.false, eq-eqb _ 0 c.if-word-wrong-ne0.false))

pub returns : goal.returns
returns c = led-to-the-end c.most-count.ensures c.loop-i.invariant c.loop-i-test.false
