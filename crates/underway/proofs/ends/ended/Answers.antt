use mathlib.Core.Path.{refl, ◌∙◌}
use Rattle.step.specs.Next.{next}
use Rattle.stepping.specs.Ahead.{end_plan}
use Rattle.stepping.specs.Closing.{accepting, finding, keeping, dropping}
use Rattle.underway.proofs.ends.ended.Goals as goal

pub returns-in-Accepted : goal.returns-in-Accepted
unfolding end_plan accepting finding keeping dropping next
returns-in-Accepted c = λ g. rw c.in-Accepted.is (c.closes.ensures ∙ rw (c.accepted.ensures g) refl)

pub returns-in-Found : goal.returns-in-Found
unfolding end_plan accepting finding keeping dropping next
returns-in-Found c = λ g. rw c.in-Found.is (c.closes-in-Found.ensures ∙ rw (c.with.ensures, c.card.ensures) refl)

pub returns-in-Keeping : goal.returns-in-Keeping
unfolding end_plan accepting finding keeping dropping next
returns-in-Keeping c = λ g. rw c.in-Keeping.is (c.closes-in-Keeping.ensures ∙ rw (c.with-in-Keeping.ensures, c.answer_for.ensures) refl)

pub returns-in-Dropping : goal.returns-in-Dropping
unfolding end_plan accepting finding keeping dropping next
returns-in-Dropping c = λ g. rw c.in-Dropping.is (c.closes-in-Dropping.ensures ∙ rw (c.with-in-Dropping.ensures, c.no_card.ensures, c.answer_for-in-Dropping.ensures) refl)
