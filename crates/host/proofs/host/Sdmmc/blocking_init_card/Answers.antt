use mathlib.Core.List.{[]}
use borrow.Author.Tests.{eq-eqb, ne_eqb, lt-ltb, le-ltb}
use mathlib.Core.Path.{refl, sym, ◌∙◌}
use Rattle.host.specs.Calls.{init_from, initialised}
use Rattle.host.proofs.host.Sdmmc.blocking_init_card.Goals as goal

pub returns-then-asked-eq0 : goal.returns-then-asked-eq0
unfolding initialised
returns-then-asked-eq0 c = rw (eq-eqb _ _ c.if-asked-eq0.true) (record { answered = c.untouched.ensures []; listed = refl })

pub returns-then-asked-gt-MOST : goal.returns-then-asked-gt-MOST
unfolding initialised
returns-then-asked-gt-MOST c = rw (ne_eqb _ _ c.if-asked-eq0.false, lt-ltb 50_000_000 _ c.if-asked-gt-MOST.true) (record { answered = c.untouched-then-asked-gt-MOST.ensures []; listed = refl })

pub returns-in-Ok : goal.returns-in-Ok
unfolding initialised
returns-in-Ok c = rw (ne_eqb _ _ c.if-asked-eq0.false, le-ltb _ _ c.if-asked-gt-MOST.false, sym c.clock_setting-answer.ensures ∙ c.in-Ok.is) c.init_from.ensures

pub returns-in-Err : goal.returns-in-Err
unfolding initialised init_from
returns-in-Err c = rw (ne_eqb _ _ c.if-asked-eq0.false, le-ltb _ _ c.if-asked-gt-MOST.false, sym c.clock_setting-answer.ensures ∙ c.in-Err.is) (record { answered = c.untouched-in-Err.ensures []; listed = refl })
