use Rattle.std.proofs.Common.{◌+◌, refl, ap, sym, ◌∙◌, arith, ℕ, length, get_or, drop}
use Rattle.wordtext.specs.Token.{NEWLINE}
use Rattle.wordtext.specs.Text.{State, step, scan, read_of, state_of}
use Rattle.wordtext.proofs.Steps.{goes_on, ends, rest_more}
use Rattle.wordtext.proofs.scan.scan_text.Goals as goal

pub loop-i-init : goal.loop-i-init
unfolding read_of
loop-i-init c = (refl, refl, refl, omega arith)

pub loop-i-preserved : goal.loop-i-preserved
loop-i-preserved c = let a = c.args in
    let text = a.text.now in
    let room = length a.words.now in
    let inv = c.loop-i.invariant in
    let i = c.loop-i.i in
    let s = state_of c.loop-i.s c.loop-i.words in
    let holds = c.step-s.ensures.holds in (
      ap (λ (t : State). scan room (i + 1) t (drop (i + 1) text)) (holds.same ∙ ap (λ (n : ℕ). step n i s (get_or text i 0)) inv.2)
          ∙ sym (goes_on room i s text (omega arith))
          ∙ inv.0,
      rest_more c.loop-i.s.count c.step-s.result.count _ c.loop-i.words a.words.now c.step-s.ensures.grows holds.rest inv.1,
      holds.size ∙ inv.2,
      omega (arith, holds.fits),
    )

pub returns : goal.returns
returns c = let a = c.args in
    let text = a.text.now in
    let room = length a.words.now in
    let inv = c.loop-i.invariant in
    let i = c.loop-i.i in
    let s = state_of c.loop-i.s c.loop-i.words in
    let holds = c.step.ensures.holds in record {
      same = holds.same
          ∙ ap (λ (n : ℕ). step n (length text) s NEWLINE) inv.2
          ∙ ap (λ (n : ℕ). step room n s NEWLINE) (omega arith)
          ∙ sym (ends room i s text (omega arith))
          ∙ inv.0;
      rest = rest_more c.loop-i.s.count c.step.result.count _ c.loop-i.words a.words.now c.step.ensures.grows holds.rest inv.1;
      size = holds.size ∙ inv.2;
      fits = omega (arith, holds.fits);
    }
