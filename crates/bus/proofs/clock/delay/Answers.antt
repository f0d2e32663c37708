use borrow.Author.Tests.{eq-eqb, ne_eqb, lt-ltb, le-ltb}
use Rattle.bus.specs.Clock.{clock_delay, delayed}
use Rattle.bus.proofs.clock.delay.Goals as goal

pub returns-then-clock-eq0 : goal.returns-then-clock-eq0
unfolding clock_delay delayed
returns-then-clock-eq0 c = rw (eq-eqb _ _ c.if-clock-eq0.true)

pub returns-then-count-lt4294967296 : goal.returns-then-count-lt4294967296
unfolding clock_delay delayed
returns-then-count-lt4294967296 c = rw (ne_eqb _ _ c.if-clock-eq0.false, ← c.spins-count.ensures, lt-ltb _ _ c.if-count-lt4294967296.true)

pub returns-else-count-lt4294967296 : goal.returns-else-count-lt4294967296
unfolding clock_delay delayed
returns-else-count-lt4294967296 c = rw (ne_eqb _ _ c.if-clock-eq0.false, ← c.spins-count.ensures, le-ltb _ _ c.if-count-lt4294967296.false)
