use mathlib.Core.Path.{sym, ◌∙◌}
use native.Mathlib.Omega.{arith}
use borrow.Author.Tests.{eq-eqb, ne_eqb}
use Rattle.text.proofs.Pens.{written_nothing}
use Rattle.events.proofs.Lines.{at_the_end, not_had, told}
use Rattle.events.proofs.flags.put_lines.Goals.{then-status-flag-ne0, else-status-flag-ne0}
use Rattle.events.proofs.flags.put_lines.Goals as goal

pub loop-flag-preserved : goal.loop-flag-preserved
loop-flag-preserved c = elim c.if-status-flag-ne0.branch [
  | then-status-flag-ne0 w ↦
      rw (w.said-is, w.pen-is)
      (c.loop-flag.invariant ∙ told c.args.table.now c.loop-flag.flag-index c.args.status c.loop-flag.said _ c.loop-flag-test.true _ (ne_eqb _ _ w.if-status-flag-ne0.true) w.put_joint.ensures w.put.ensures)
  | else-status-flag-ne0 w ↦
      rw (w.said-is, w.pen-is, ← not_had c.args.table.now c.loop-flag.flag-index c.args.status c.loop-flag.said _ c.loop-flag-test.true (eq-eqb _ _ w.if-status-flag-ne0.false))
      c.loop-flag.invariant
]

pub returns-then-not-said : goal.returns-then-not-said
returns-then-not-said c =
    let all = c.loop-flag.invariant in
    let last = at_the_end c.args.table.now c.loop-flag.flag-index c.args.status c.loop-flag.said (omega arith) in
    rw (all, last, c.if-not-said.true) c.put-then-not-said.ensures

pub returns-else-not-said : goal.returns-else-not-said
returns-else-not-said c =
    let all = c.loop-flag.invariant in
    let last = at_the_end c.args.table.now c.loop-flag.flag-index c.args.status c.loop-flag.said (omega arith) in
    rw (all, last, c.if-not-said.false) (sym (written_nothing _))
