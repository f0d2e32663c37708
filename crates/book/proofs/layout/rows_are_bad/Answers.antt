use mathlib.Core.Path.{sym, ap, ◌∙◌}
use native.Mathlib.Omega.{arith}
use Rattle.book.proofs.Rows.{bad_asked, bad-here, bad-further, bad-none}
use Rattle.book.proofs.layout.rows_are_bad.Goals as goal

pub returns-then-row_is_bad : goal.returns-then-row_is_bad
returns-then-row_is_bad c = let args = c.args in
    let bad = sym (ap bad_asked c.call_at.ensures) ∙ sym c.row_is_bad.ensures ∙ c.if-row_is_bad.true in
    sym (c.loop-k.invariant ∙ bad-here args.words.now c.loop-k.k args.n (omega arith) bad)

pub loop-k-preserved : goal.loop-k-preserved
loop-k-preserved c = let args = c.args in
    let good = sym (ap bad_asked c.call_at.ensures) ∙ sym c.row_is_bad.ensures ∙ c.if-row_is_bad.false in
    c.loop-k.invariant ∙ bad-further args.words.now c.loop-k.k args.n (omega arith) good

pub returns : goal.returns
returns c = sym (c.loop-k.invariant ∙ bad-none _ _ _ (omega arith))
