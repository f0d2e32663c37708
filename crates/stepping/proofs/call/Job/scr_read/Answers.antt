use mathlib.Core.Path.{ap, sym, ◌∙◌}
use Rattle.stepping.specs.declared.call.Then.{Then}
use Rattle.stepping.specs.Ahead.{then_next}
use Rattle.stepping.proofs.Held.{first_two}
use Rattle.stepping.proofs.Follows as F
use Rattle.stepping.proofs.call.Job.scr_read.Goals as goal

pub returns-then-fits : goal.returns-then-fits
returns-then-fits c = λ ws h. ap (λ (t : Then). then_next c.args.self ws t h) c.and.ensures ∙ rw c.tells_app.ensures (F.scr-fits c.args.self c.args.known h ws _ _ (c.scr_of-scr.ensures ∙ first_two c.args.held) (sym c.fits.ensures ∙ c.if-fits.true))

pub returns-else-fits : goal.returns-else-fits
returns-else-fits c = λ ws h. ap (λ (t : Then). then_next c.args.self ws t h) c.and-else-fits.ensures ∙ F.scr-narrow c.args.self c.args.known h ws _ _ (c.scr_of-scr.ensures ∙ first_two c.args.held) (sym c.fits.ensures ∙ c.if-fits.false)
