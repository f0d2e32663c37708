use borrow.Author.Tests.{eq-eqb, ne_eqb}
use Rattle.stepping.proofs.Follows as F
use Rattle.stepping.proofs.call.Job.width_told.Goals as goal

pub returns-then-words-eq0 : goal.returns-then-words-eq0
returns-then-words-eq0 c = λ ws h. F.width-untaken c.args.self c.args.known h ws c.args.words (eq-eqb _ _ c.if-words-eq0.true)

pub returns : goal.returns
returns c = λ ws h. rw c.width-width.ensures (F.width-taken c.args.self c.args.known h ws c.args.words (ne_eqb _ _ c.if-words-eq0.false))
