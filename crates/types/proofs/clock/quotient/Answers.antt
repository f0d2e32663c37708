use Prim.Native.Nat.{◌*◌, ◌-◌, ◌%◌, ◌^◌}
use mathlib.Core.Path.{◌≡◌, ◌∙◌}
use native.Mathlib.Nat.{mod-eq_of_lt}
use native.Mathlib.Omega.{arith}
use lib.Bits.{and_mask, mask_lt}
use borrow.Author.Rules.{rules}
use Rattle.types.proofs.Quotient.{Divided, below, step-taken, step_kept, begun, ended}
use Rattle.types.proofs.clock.quotient.Goals as goal
use Rattle.types.proofs.clock.quotient.Goals.{then-place-both, else-place-both}

pub loop-both-init : goal.loop-both-init
loop-both-init c = (search rules, search rules, omega arith, begun 32 c.args.number c.args.divisor (omega arith))

pub returns-then-left-eq0 : goal.returns-then-left-eq0
returns-then-left-eq0 c =
    let place : c.args.divisor * 2 ^ 32 % 2 ^ 64 ≡ c.args.divisor * 2 ^ 32 = mod-eq_of_lt (omega arith) in
    let n = c.args.number in
    let d = c.args.divisor in
    let at = c.loop-both in
    let after : Divided n d (32 - (at.left - 1)) (at.left - 1) c.if-place-both.both =
    elim c.if-place-both.branch [
      | then-place-both w ↦ rw (w.both-is, place) (step-taken 32 n d at.left at.both at.invariant.0 at.invariant.1 at.invariant.3 (rw place at w.if-place-both.true))
      | else-place-both w ↦ rw w.both-is (step_kept 32 n d at.left at.both at.invariant.0 at.invariant.1 at.invariant.3 (rw place at w.if-place-both.false))
    ] in
    let none : at.left - 1 ≡ 0 = c.if-left-eq0.true in
    let last = rw none at after in
    and_mask c.if-place-both.both 32 ∙ ended 32 _ _ _ last

pub overflow_cast-result : goal.overflow_cast-result
overflow_cast-result c = record { fits = mask_lt c.if-place-both.both 32 }

pub loop-both-preserved : goal.loop-both-preserved
loop-both-preserved c =
    let place : c.args.divisor * 2 ^ 32 % 2 ^ 64 ≡ c.args.divisor * 2 ^ 32 = mod-eq_of_lt (omega arith) in
    let n = c.args.number in
    let d = c.args.divisor in
    let at = c.loop-both in
    let after : Divided n d (32 - (at.left - 1)) (at.left - 1) c.if-place-both.both =
    elim c.if-place-both.branch [
      | then-place-both w ↦ rw (w.both-is, place) (step-taken 32 n d at.left at.both at.invariant.0 at.invariant.1 at.invariant.3 (rw place at w.if-place-both.true))
      | else-place-both w ↦ rw w.both-is (step_kept 32 n d at.left at.both at.invariant.0 at.invariant.1 at.invariant.3 (rw place at w.if-place-both.false))
    ] in
    (omega arith, omega arith, below 32 _ _ _ _ _ (omega arith) after, after)
