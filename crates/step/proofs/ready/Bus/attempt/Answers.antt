use Rattle.std.specs.Prelude.{None}
use borrow.Author.Rules.{rules}
use Prim.Native.Nat.{ℕ}
use mathlib.Core.Path.{◌≡◌, ap, ◌∙◌}
use Rattle.step.specs.Next.{next}
use Rattle.step.specs.Ready.{attempts, waits_next}
use Rattle.step.proofs.Readying as W
use Rattle.step.proofs.Parts as one
use Rattle.step.proofs.ready.Bus.attempt.Goals as goal

pub returns-then-left-eq0 : goal.returns-then-left-eq0
unfolding waits_next
returns-then-left-eq0 c = λ h gate. rw c.if-left-eq0.true (W.attempt_over _ h)

pub returns : goal.returns
unfolding waits_next
returns c = λ h gate. W.attempt_on _ h _ _ gate _ (rw c.in_ok-command.was at (c.begin.ensures h)) ∙ ap (λ (n : ℕ). next (attempts c.args.self n) h) (one.one_less _ c.if-left-eq0.false)

pub returns-in_err-command : goal.returns-in_err-command
unfolding waits_next
returns-in_err-command c = λ h gate.
    let none : c.from_residual.result ≡ None = search rules in
    rw none (W.attempt_failed _ h _ _ gate (rw c.in_err-command.was at (c.begin.ensures h)) ∙ ap (λ (n : ℕ). next (attempts c.args.self n) h) (one.one_less _ c.if-left-eq0.false))
