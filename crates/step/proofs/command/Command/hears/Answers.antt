use mathlib.Core.Path.{◌∙◌}
use Rattle.step.proofs.Parts as parts
use borrow.Author.Tests.{eq-eqb, ne_eqb}
use Rattle.step.proofs.command.Command.hears.Goals as goal

pub returns-then-word-eq0 : goal.returns-then-word-eq0
returns-then-word-eq0 c = λ h. rw c.in-Idle.is (c.tells.ensures h ∙ parts.idle-ends _ _ _ _ _ h _ _ (eq-eqb _ _ c.if-word-eq0.true))

pub returns-else-word-eq0 : goal.returns-else-word-eq0
returns-else-word-eq0 c = λ h. rw c.in-Idle.is (c.idles.ensures h ∙ parts.idle-goes _ _ _ _ _ h _ _ (ne_eqb _ _ c.if-word-eq0.false))

pub returns-in-Poll : goal.returns-in-Poll
returns-in-Poll c = λ h. rw c.in-Poll.is (c.polled.ensures h ∙ parts.poll_goes _ _ _ _ _ h _ _)

pub returns-then-word-index : goal.returns-then-word-index
returns-then-word-index c = λ h. rw c.in-Echo.is (c.asks.ensures h ∙ parts.echo-good _ _ _ _ _ h _ (eq-eqb _ _ c.if-word-index.true))

pub returns-else-word-index : goal.returns-else-word-index
returns-else-word-index c = λ h. rw c.in-Echo.is (c.fails.ensures h ∙ parts.echo-bad _ _ _ _ _ h _ (ne_eqb _ _ c.if-word-index.false))

pub returns-in-First : goal.returns-in-First
returns-in-First c = λ h. rw c.in-First.is (c.asks-in-First.ensures h ∙ parts.first _ _ _ _ _ h _)

pub returns-in-Second : goal.returns-in-Second
returns-in-Second c = λ h. rw c.in-Second.is (c.asks-in-Second.ensures h ∙ parts.second _ _ _ _ _ h _ _)

pub returns-in-Third : goal.returns-in-Third
returns-in-Third c = λ h. rw c.in-Third.is (c.asks-in-Third.ensures h ∙ parts.third _ _ _ _ _ h _ _ _)

pub returns-in-Fourth : goal.returns-in-Fourth
returns-in-Fourth c = λ h. rw c.in-Fourth.is (c.judged.ensures h ∙ parts.fourth _ _ _ _ _ h _ _ _ _)
