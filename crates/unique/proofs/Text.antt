-- A line for each public function of `text`. What a pen holds then, and where it stands, is one equation.
use mathlib.Core.List.{List}
use Prim.Native.Nat.{ℕ}
use Rattle.text.proofs.pen
use Rattle.unique.specs.Unique.{Unique, UniqueIn}
use Rattle.unique.proofs.Determined.{determined, part-determined}

pen_pen_put_byte : Unique pen.Pen.put_byte.Kinds.ps pen.Pen.put_byte.Kinds.r pen.Pen.put_byte.Reads.Learnt
pen_pen_put_byte = determined _ λ _ _ _ p i. (p i, tt)

pen_pen_put : Unique pen.Pen.put.Kinds.ps pen.Pen.put.Kinds.r pen.Pen.put.Reads.Learnt
pen_pen_put = determined _ λ _ _ _ p i. (p i, tt)

pen_pen_put_decimal : Unique pen.Pen.put_decimal.Kinds.ps pen.Pen.put_decimal.Kinds.r pen.Pen.put_decimal.Reads.Learnt
pen_pen_put_decimal = determined _ λ _ _ _ p i. (p i, tt)

pen_pen_put_hex : Unique pen.Pen.put_hex.Kinds.ps pen.Pen.put_hex.Kinds.r pen.Pen.put_hex.Reads.Learnt
pen_pen_put_hex = determined _ λ _ _ _ p i. (p i, tt)

pen_pen_put_named : Unique pen.Pen.put_named.Kinds.ps pen.Pen.put_named.Kinds.r pen.Pen.put_named.Reads.Learnt
pen_pen_put_named = determined _ λ _ _ _ p i. (p i, tt)

-- Exception: it holds what it is lent. What that shows and where the pen stands is promised, and not where it lies.
pen_pen_new : UniqueIn pen.Pen.new.Kinds.ps pen.Pen.new.Kinds.r pen.Pen.new.Reads.Learnt {X = λ _ _. List ℕ × ℕ} (λ _ _ x. (x.0.out.now, x.0.at))
pen_pen_new = part-determined _ λ _ _ _ p i. (p.1.0 i, p.1.1 i)
