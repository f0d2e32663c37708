use Rattle.step.specs.Next.{Handed}
use Rattle.step.specs.Transfer.{reading_at, data_plan}
use Rattle.step.proofs.Phases as P
use Rattle.step.proofs.ready.Bus.takes.Goals as goal

pub returns-then-place-top : goal.returns-then-place-top
unfolding data_plan reading_at Handed
returns-then-place-top c = λ ws ws' h word more. rw (c.place-place.ensures, c.top-top.ensures) (P.word-goes c.args.self c.args.phase h ws ws' _ _ more.1 (rw (c.place-place.ensures, c.top-top.ensures) at c.if-place-top.true))

pub returns-else-place-top : goal.returns-else-place-top
unfolding data_plan reading_at Handed
returns-else-place-top c = λ ws ws' h word more. P.word-ends c.args.self c.args.phase h ws ws' _ _ more.1 (rw (c.place-place.ensures, c.top-top.ensures) at c.if-place-top.false)
