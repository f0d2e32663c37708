use Rattle.std.proofs.Common.{rules}
use Rattle.std.proofs.lemmas.Result.{err_from_is_err_and}
use mathlib.Core.Path.{sym}
use lib.Seq.{length-take-le}
use Rattle.text.proofs.Ink.{stands-within}
use Rattle.text.proofs.Lent.{same_name}
use Rattle.text.proofs.Pens.{made_over}
use Rattle.bench.proofs.Opens.{opening-fits}
use Rattle.telling.proofs.Books.{not-begun, book-told}
use Rattle.telling.proofs.tell_all.Goals as goal

pub handed-sheet-requires : goal.handed-sheet-requires
handed-sheet-requires g c =
    let made = c.new-pen.ensures in
    let name = same_name _ _ c.open-opening.ensures.printed made.same in
    stands-within (made_over _ made.stands made.held c.open-opening.ensures.printed (search rules))

pub returns-in_err-sheet-clause-told : goal.returns-in_err-sheet-clause-told
returns-in_err-sheet-clause-told g c = let opened = c.open-opening in
    let said = opened.ensures in
    let made = c.new-pen.ensures in
    let name = same_name _ _ said.printed made.same in
    let p = err_from_is_err_and c.from_residual.result c.from_residual.ensures.1 in
    rw p.1 (not-begun _ _ _ opened.result _ _ _ said.opened (made_over _ made.stands made.held said.printed (search rules)) _)

pub slice_bounds-tell_calls-end : goal.slice_bounds-tell_calls-end
slice_bounds-tell_calls-end g c = let opened = c.open-opening in
    opening-fits _ _ _ opened.result opened.ensures.opened opened.ensures.laid

pub slice_bounds-tell_calls-end-2 : goal.slice_bounds-tell_calls-end-2
slice_bounds-tell_calls-end-2 g c = let opened = c.open-opening in
    sym (length-take-le _ _ (opening-fits _ _ _ opened.result opened.ensures.opened opened.ensures.laid))

pub returns : goal.returns
returns g c = let opened = c.open-opening in
    let said = opened.ensures in
    let made = c.new-pen.ensures in
    let name = same_name _ _ said.printed made.same in
    record { loaded = said.laid; told = book-told _ _ _ _ opened.result _ _ _ _ _ said.laid said.opened (made_over _ made.stands made.held said.printed (search rules)) c.tell_calls.ensures }
