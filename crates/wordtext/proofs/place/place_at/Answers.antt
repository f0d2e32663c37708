use Rattle.std.proofs.Common.{◌+◌, List, ℕ, refl, ap, sym, ◌∙◌, arith, get_or, take}
use Rattle.wordtext.specs.declared.place.Place.{Place}
use Rattle.wordtext.specs.Text.{moved, place_from, place_of}
use Rattle.wordtext.proofs.Places.{place-more, place-cut, moved_little}
use Rattle.wordtext.proofs.place.place_at.Goals as goal

pub loop-b-init : goal.loop-b-init
unfolding place_of place_from
loop-b-init c = (refl, omega arith, omega arith)

pub loop-b-preserved : goal.loop-b-preserved
loop-b-preserved c = let inv = c.loop-b.invariant in
    let i = c.loop-b.b-index in
    let items : List ℕ = take c.min.result c.args.text.now in
    let little = moved_little c.loop-b.p (get_or items i 0) (i + 1) inv.1 inv.2 (omega arith) in (
      c.moved-p.ensures ∙ ap (λ (p : Place). moved p (get_or items i 0)) inv.0 ∙ sym (place-more items i c.loop-b-test.true),
      rw c.moved-p.ensures little.0,
      rw c.moved-p.ensures little.1,
    )

pub returns : goal.returns
returns c = c.loop-b.invariant.0 ∙ place-cut c.args.text.now c.args.at c.min.result c.loop-b.b-index c.min.ensures c.loop-b-test.false
