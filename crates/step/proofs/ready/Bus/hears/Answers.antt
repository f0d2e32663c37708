use mathlib.Core.Path.{◌∙◌}
use borrow.Author.Tests.{eq-eqb, ne_eqb}
use Rattle.step.specs.Next.{Handed}
use Rattle.step.specs.Transfer.{reading_at, data_plan}
use Rattle.step.proofs.Phases as P
use Rattle.step.proofs.ready.Bus.hears.Goals as goal

pub returns-then-word-eq0 : goal.returns-then-word-eq0
unfolding data_plan reading_at Handed
returns-then-word-eq0 c = λ ws ws' h more. rw (c.in-Idle.is, rw c.in-Idle.is at more) (P.idle-ends c.args.self c.args.phase h ws _ _ (eq-eqb _ _ c.if-word-eq0.true))

pub returns-else-word-eq0 : goal.returns-else-word-eq0
unfolding reading_at Handed
returns-else-word-eq0 c = λ ws ws' h more. rw (c.in-Idle.is, rw c.in-Idle.is at more) (c.idles.ensures ws h ∙ P.idle-on c.args.self c.args.phase h ws _ _ (ne_eqb _ _ c.if-word-eq0.false))

pub returns-in-First : goal.returns-in-First
unfolding reading_at Handed
returns-in-First c = λ ws ws' h more. rw (c.in-First.is, rw c.in-First.is at more) (c.opens.ensures ws h)

pub returns-in-FirstDma : goal.returns-in-FirstDma
unfolding reading_at Handed
returns-in-FirstDma c = λ ws ws' h more. rw (c.in-FirstDma.is, rw c.in-FirstDma.is at more) (c.runs.ensures ws h)

pub returns-in-Again : goal.returns-in-Again
unfolding reading_at Handed
returns-in-Again c = λ ws ws' h more. rw (c.in-Again.is, rw c.in-Again.is at more) (c.looks.ensures ws h)

pub returns-in-AgainDma : goal.returns-in-AgainDma
unfolding reading_at Handed
returns-in-AgainDma c = λ ws ws' h more. rw (c.in-AgainDma.is, rw c.in-AgainDma.is at more) (c.settles.ensures ws h)

pub returns-in-Count : goal.returns-in-Count
unfolding reading_at Handed
returns-in-Count c = λ ws ws' h more. rw (c.in-Count.is, rw c.in-Count.is at more) (c.counts.ensures ws h)

pub returns-in-Word : goal.returns-in-Word
unfolding reading_at
returns-in-Word c = λ ws ws' h more. rw c.in-Word.is (c.takes.ensures ws ws' h _ (rw c.in-Word.is at more))
