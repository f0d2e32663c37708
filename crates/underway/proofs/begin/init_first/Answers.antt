use mathlib.Core.Path.{refl, sym, ◌∙◌}
use borrow.Author.Tests.{eq-eqb, ne_eqb, lt-ltb, le-ltb}
use Rattle.underway.specs.First.{first_plan}
use Rattle.underway.specs.Whole.{init_call, init_at}
use Rattle.underway.proofs.begin.init_first.Goals as goal

pub returns-then-frequency-eq0 : goal.returns-then-frequency-eq0
unfolding first_plan init_call init_at
returns-then-frequency-eq0 c = λ sent. rw (eq-eqb _ _ c.if-frequency-eq0.true) refl

pub returns-then-frequency-gt-MOST : goal.returns-then-frequency-gt-MOST
unfolding first_plan init_call init_at
returns-then-frequency-gt-MOST c = λ sent. rw (ne_eqb _ _ c.if-frequency-eq0.false, lt-ltb 50_000_000 _ c.if-frequency-gt-MOST.true) refl

pub returns-in-Ok : goal.returns-in-Ok
unfolding first_plan init_call init_at
returns-in-Ok c = λ sent. rw (ne_eqb _ _ c.if-frequency-eq0.false, le-ltb _ _ c.if-frequency-gt-MOST.false, sym c.clock_setting-answer.ensures ∙ c.in-Ok.is) refl

pub returns-in-Err : goal.returns-in-Err
unfolding first_plan init_call init_at
returns-in-Err c = λ sent. rw (ne_eqb _ _ c.if-frequency-eq0.false, le-ltb _ _ c.if-frequency-gt-MOST.false, sym c.clock_setting-answer.ensures ∙ c.in-Err.is) refl
