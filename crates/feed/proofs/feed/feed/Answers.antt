use mathlib.Core.Path.{◌≡◌, ap, sym, ◌∙◌}
use lib.ListN.{length}
use mathlib.Core.List.{[]}
use borrow.Author.Rules.{rules}
use Rattle.types.specs.Words.{words_of}
use Rattle.tape.specs.Layout.{rows_in}
use Rattle.tape.proofs.Layouts.{rows_long}
use Rattle.host.specs.Calls.{called_of}
use Rattle.feed.specs.Turns.{lent, way_of, fed_from, place_from}
use Rattle.feed.specs.declared.feed.Fed.{Fed}
use Rattle.feed.specs.declared.turn.Feeding.{Feeding}
use Rattle.feed.proofs.Fed as F
use Rattle.feed.proofs.feed.feed.Goals as goal

pub loop-next-init : goal.loop-next-init
loop-next-init c = F.begun _ _ _ _

pub returns-then-not-goes_on : goal.returns-then-not-goes_on
returns-then-not-goes_on c = let turn = c.turn-turn in
    let loop = c.loop-next in
    let begin = c.begin-feeding in
    let s = c.args.script in
    let g = lent (words_of c.args.data.now) [] in
    let l = rows_in c.args.rows.now in
    let none = c.if-not-goes_on.true in
    let x =
    F.ends_there _ loop.invariant turn.result _ turn.ensures (sym c.goes_on.ensures ∙ none) _
    (λ g. ap (λ (r : Fed). r.called) (c.ended.ensures g)) in record { answered = x.0 ∙ ap (λ (f : Feeding). called_of (fed_from s.now (way_of g f) l)) begin.ensures; listed = x.1 ∙ ap (λ (f : Feeding). (fed_from s.now (way_of g f) l).list) begin.ensures; placed = ap (λ (r : Fed). r.place) (c.ended.ensures g) ∙ x.2 ∙ ap (λ (f : Feeding). place_from s.now (way_of g f) l) begin.ensures }

pub loop-next-smaller : goal.loop-next-smaller
loop-next-smaller c = let turn = c.turn-turn in
    let loop = c.loop-next in
    F.goes-less _ loop.invariant turn.result _ turn.ensures (sym c.goes_on.ensures ∙ c.if-not-goes_on.false)

pub loop-next-preserved : goal.loop-next-preserved
loop-next-preserved c = let turn = c.turn-turn in
    let loop = c.loop-next in
    F.goes-on _ loop.invariant turn.result _ turn.ensures (sym c.goes_on.ensures ∙ c.if-not-goes_on.false)

pub shape_of-rows-then-not-goes_on : goal.shape_of-rows-then-not-goes_on
shape_of-rows-then-not-goes_on c = let loop = c.loop-next in
    let long : length loop.rows ≡ length c.args.rows.now =
    sym (rows_long _) ∙ loop.invariant.long ∙ rows_long _ in
    search (rules, long)
