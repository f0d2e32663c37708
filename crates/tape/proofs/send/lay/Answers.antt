use Prim.Native.Nat.{ℕ, ◌+◌, ◌^◌, ◌<◌}
use mathlib.Core.Path.{refl, ap, ◌∙◌}
use mathlib.Core.List.{List}
use native.Mathlib.Omega.{arith}
use native.Mathlib.Numerals.{add-one}
use native.Mathlib.Nat.{zero-add}
use lib.ListN.{set}
use Rattle.types.specs.Words.{words_of}
use Rattle.tape.specs.declared.rows.Row.{Row}
use Rattle.tape.specs.Layout.{rows_in, sent_over}
use Rattle.tape.proofs.Layouts.{row-stored}
use Rattle.tape.proofs.Sending.{fifo, sent-more, word_made}
use borrow.Author.Rules.{rules}
use Rattle.tape.proofs.send.lay.Goals as goal

pub loop-i-init : goal.loop-i-init
unfolding sent_over
loop-i-init c = refl

pub loop-i-preserved : goal.loop-i-preserved
loop-i-preserved c = let ws = words_of c.args.bytes.now in
    let l = rows_in c.args.rows.now in
    let place = c.args.place in
    let i = c.loop-i.i in
    let value = word_made c.args.bytes.now i _ (omega (arith, c.requires.count_in_bounds_2)) c.little.ensures in
    let fits : c.little.result < 2 ^ 32 = search rules in
    rw c.word.ensures
    (row-stored c.loop-i.rows (place + i) (fifo c.little.result) fits
    ∙ ap (λ (rs : List Row). set rs (place + i) (fifo c.little.result)) c.loop-i.invariant
    ∙ ap (λ (w : ℕ). set (sent_over ws 0 i place l) (place + i) (fifo w)) value
    ∙ rw (add-one i) (rw (zero-add i) at (sent-more ws 0 i place l)))
