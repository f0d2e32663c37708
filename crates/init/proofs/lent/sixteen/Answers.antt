use Prim.Native.Nat.{ℕ, ◌+◌, ◌<◌}
use mathlib.Core.List.{List, ◌++◌, append-nil}
use mathlib.Core.Path.{◌≡◌, refl, ap, sym, ◌∙◌}
use native.Mathlib.Nat.{zero-add}
use native.Mathlib.Omega.{arith}
use lib.ListN.{get_or, set, length, drop, drop_of_length-le, replicate}
use lib.Seq.{take_all}
use Rattle.types.proofs.Counted.{length-counted, get_d_counted, over, over-more}
use Rattle.init.specs.Lent.{sixteen_of}
use Rattle.init.proofs.lent.sixteen.Goals as goal

-- the words at each place, laid over any sixteen
module _ (ws z : List ℕ) (sixteen : length z ≡ 16) where
  long : length (sixteen_of ws) ≡ 16
  unfolding sixteen_of
  long = length-counted _ 0 16

  step : (i v : ℕ) → i < 16 → v ≡ get_or ws i 0 → set (over (sixteen_of ws) z i) i v ≡ over (sixteen_of ws) z (i + 1)
  unfolding sixteen_of
  step i v h e =
      let at : ℕ → ℕ = λ n. get_or ws n 0 in
      let value : v ≡ get_or (sixteen_of ws) i 0 = e ∙ ap at (sym (zero-add i)) ∙ sym (get_d_counted at 0 16 i 0 h) in
      ap (λ (w : ℕ). set (over (sixteen_of ws) z i) i w) value ∙ over-more (sixteen_of ws) z i (omega (arith, long)) (omega arith)

  all : over (sixteen_of ws) z 16 ≡ sixteen_of ws
  all = ap (λ (l : List ℕ). l ++ drop 16 z) (take_all 16 (sixteen_of ws) (omega (arith, long))) ∙ ap (λ (l : List ℕ). sixteen_of ws ++ l) (drop_of_length-le z {i = 16} (omega arith)) ∙ append-nil (sixteen_of ws)

pub loop-k-init : goal.loop-k-init
loop-k-init c = refl

pub loop-k-preserved : goal.loop-k-preserved
loop-k-preserved c = rw c.loop-k.invariant (step _ _ refl c.loop-k.k _ c.loop-k-test.true c.word.ensures)

pub returns : goal.returns
returns c = let done : c.loop-k.k ≡ 16 = omega arith in
    rw (c.loop-k.invariant, done) (all _ (replicate 16 0) refl)
