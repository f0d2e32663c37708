use Rattle.std.proofs.Common.{rules}
use Rattle.std.proofs.lemmas.Result.{err_from_is_err_and}
use mathlib.Core.Path.{sym}
use lib.Seq.{length-take-le}
use Rattle.text.proofs.Ink.{stands-within}
use Rattle.text.proofs.Lent.{same_name}
use Rattle.text.proofs.Pens.{made_over}
use Rattle.bench.proofs.Opens.{opening-fits}
use Rattle.tracing.proofs.Traces.{not-begun, book-traced}
use Rattle.tracing.proofs.trace_book.Goals as goal

pub slice_bounds-put-end : goal.slice_bounds-put-end
slice_bounds-put-end g c =
    let made = c.new-pen.ensures in
    let name = same_name _ _ c.open-opening.ensures.printed made.same in
    stands-within (made_over _ made.stands made.held c.open-opening.ensures.printed (search rules))

pub slice_bounds-put-end-2 : goal.slice_bounds-put-end-2
slice_bounds-put-end-2 g c =
    let made = c.new-pen.ensures in
    let name = same_name _ _ c.open-opening.ensures.printed made.same in
    sym (length-take-le _ _ (stands-within (made_over _ made.stands made.held c.open-opening.ensures.printed (search rules))))

pub slice_bounds-trace_calls-end : goal.slice_bounds-trace_calls-end
slice_bounds-trace_calls-end g c = let opened = c.open-opening in
    opening-fits _ _ _ opened.result opened.ensures.opened opened.ensures.laid

pub slice_bounds-trace_calls-end-2 : goal.slice_bounds-trace_calls-end-2
slice_bounds-trace_calls-end-2 g c = let opened = c.open-opening in
    sym (length-take-le _ _ (opening-fits _ _ _ opened.result opened.ensures.opened opened.ensures.laid))

pub returns-in_err-put-clause-traced : goal.returns-in_err-put-clause-traced
returns-in_err-put-clause-traced g c = let opened = c.open-opening in
    let said = opened.ensures in
    let made = c.new-pen.ensures in
    let name = same_name _ _ said.printed made.same in
    let p = err_from_is_err_and c.from_residual.result c.from_residual.ensures.1 in
    rw p.1 (not-begun _ _ _ opened.result _ _ _ said.opened (made_over _ made.stands made.held said.printed (search rules)) _)

pub returns-clause-traced : goal.returns-clause-traced
returns-clause-traced g c = let opened = c.open-opening in
    let said = opened.ensures in
    let made = c.new-pen.ensures in
    let name = same_name _ _ said.printed made.same in
    book-traced _ _ _ _ opened.result _ _ _ _ _ said.laid (search rules) said.opened (made_over _ made.stands made.held said.printed (search rules)) c.trace_calls.ensures
