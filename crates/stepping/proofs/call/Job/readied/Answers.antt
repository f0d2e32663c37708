use mathlib.Core.Path.{sym, ◌∙◌}
use Rattle.stepping.proofs.Standing as S
use Rattle.stepping.proofs.call.Job.readied.Goals as goal

pub returns-in-Blocks : goal.returns-in-Blocks
returns-in-Blocks c = λ ws h. rw c.in-Blocks.is (S.ready_read c.args.self c.args.known h ws)

pub returns-in-SDSC : goal.returns-in-SDSC
returns-in-SDSC c = λ ws h. rw c.in-Selected.is (S.ready-standard c.args.self c.args.known h ws (sym c.class-class.ensures ∙ c.in-SDSC.is))

pub returns-in-SDHC : goal.returns-in-SDHC
returns-in-SDHC c = λ ws h. rw (c.in-Selected.is, c.tells_app.ensures) (S.ready-high c.args.self c.args.known h ws (sym c.class-class.ensures ∙ c.in-SDHC.is))
