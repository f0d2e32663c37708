use mathlib.Core.Path.{ap, sym, ◌∙◌}
use borrow.Author.Tests.{eq-eqb, ne_eqb}
use Rattle.stepping.specs.declared.call.Then.{Then}
use Rattle.stepping.specs.Ahead.{then_next}
use Rattle.stepping.proofs.Follows as F
use Rattle.stepping.proofs.call.Job.addressed.Goals as goal

pub returns-then-rca-eq0 : goal.returns-then-rca-eq0
returns-then-rca-eq0 c = λ ws h. ap (λ (t : Then). then_next c.args.self ws t h) c.and.ensures ∙ F.address-none c.args.self c.args.known h ws c.args.words (eq-eqb _ _ (sym c.address-rca.ensures ∙ c.if-rca-eq0.true))

pub returns : goal.returns
returns c = λ ws h. ap (λ (t : Then). then_next c.args.self ws t h) c.and-2.ensures ∙ rw c.address-rca.ensures (F.address-known c.args.self c.args.known h ws c.args.words (rw c.address-rca.ensures at (ne_eqb _ _ c.if-rca-eq0.false)))
