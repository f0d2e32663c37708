use mathlib.Core.Path.{refl, sym, ◌∙◌}
use Prim.Native.Nat.{◌%◌}
use borrow.Author.Tests.{eq-eqb, ne_eqb, not-true, not-false}
use Rattle.host.specs.Calls.{blocks_judged}
use Rattle.host.proofs.host.Sdmmc.judged.Goals as goal

pub returns-then-not-self : goal.returns-then-not-self
unfolding blocks_judged
returns-then-not-self c = rw (not-true c.args.self.known c.if-not-self.true) refl

pub returns-then-barred : goal.returns-then-barred
unfolding blocks_judged
returns-then-barred c = rw (not-false c.args.self.known c.if-not-self.false, sym c.barred.ensures ∙ c.if-barred.true) refl

pub returns-then-bytes-ne0 : goal.returns-then-bytes-ne0
unfolding blocks_judged
returns-then-bytes-ne0 c = rw (not-false c.args.self.known c.if-not-self.false, sym c.barred.ensures ∙ c.if-barred.false, ne_eqb (_ % 512) 0 c.if-bytes-ne0.true) refl

pub returns : goal.returns
unfolding blocks_judged
returns c = rw (not-false c.args.self.known c.if-not-self.false, sym c.barred.ensures ∙ c.if-barred.false, eq-eqb (_ % 512) 0 c.if-bytes-ne0.false) c.block_address.ensures
