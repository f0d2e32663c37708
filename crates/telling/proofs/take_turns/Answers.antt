use mathlib.Core.Path.{refl, sym, ◌∙◌}
use native.Mathlib.Omega.{arith}
use Rattle.telling.proofs.Lines.{same_sheet}
use Rattle.telling.proofs.Turning.{starts-telling, goes-telling, goes-less, all-called, all_told}
use borrow.Author.Rules.{rules}
use Rattle.telling.proofs.take_turns.Goals as goal

pub loop-page-init : goal.loop-page-init
loop-page-init g c = (refl, refl, c.requires, starts-telling _ _ _ _ _)

pub tell_event-page-requires : goal.tell_event-page-requires
tell_event-page-requires g c = c.loop-page.invariant.2

pub returns-then-not-goes_on : goal.returns-then-not-goes_on
returns-then-not-goes_on g c = let begun = c.begin-feeding.ensures in
    let ends = sym c.goes_on.ensures ∙ c.if-not-goes_on.true in
    let page = c.ended.ensures.sheet in record {
      answered = all-called _ begun c.loop-page.invariant.3 c.turn-turn.result _ c.turn-turn.ensures ends c.ended.ensures.called;
      fits = rw page c.tell_event-page.ensures.fits;
      told = same_sheet _ page
          ∙ all_told _ begun c.loop-page.invariant.3 c.turn-turn.result _ c.turn-turn.ensures ends c.tell_event-page.ensures.told;
    }

pub loop-page-smaller : goal.loop-page-smaller
loop-page-smaller g c = omega (arith, goes-less _ c.loop-page.invariant.3 c.turn-turn.result _ c.turn-turn.ensures (sym c.goes_on.ensures ∙ c.if-not-goes_on.false))

pub loop-page-preserved : goal.loop-page-preserved
loop-page-preserved g c = (
  search rules,
  search rules,
  c.tell_event-page.ensures.fits,
  goes-telling _ c.loop-page.invariant.3 c.turn-turn.result _ c.turn-turn.ensures c.tell_event-page.ensures.told
      (sym c.goes_on.ensures ∙ c.if-not-goes_on.false),
)
