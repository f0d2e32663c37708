use Prim.Native.Nat.{ℕ, ◌*◌, ◌/◌, ◌<◌, ◌≤◌}
use mathlib.Core.Path.{◌≡◌, refl}
use mathlib.Core.Bool.{true, false}
use mathlib.Core.List.{List}
use native.Mathlib.Omega.{arith}
use lib.ListN.{length}
use borrow.Author.Tests.{le-ltb, lt-ltb}
use Rattle.tape.specs.Layout.{rows_in, too_short}
use Rattle.tape.proofs.Layouts.{rows_long}
use Rattle.tape.proofs.pairs.convert.Goals as goal

module _ (n : ℕ) (ws t : List ℕ) where
  no_rows : length ws < n → too_short n (rows_in ws) t ≡ true
  no_rows few = rw (rows_long ws, lt-ltb (length ws) n few)

  no_words : n ≤ length ws → length t / 2 < n → too_short n (rows_in ws) t ≡ true
  no_words many h = rw (rows_long ws, le-ltb (length ws) n many, lt-ltb (length t) (2 * n) (omega arith))

  enough : n ≤ length ws → n ≤ length t / 2 → too_short n (rows_in ws) t ≡ false
  enough many h = rw (rows_long ws, le-ltb (length ws) n many, le-ltb (length t) (2 * n) (omega arith))

pub returns-then-rows-count : goal.returns-then-rows-count
returns-then-rows-count c = let a = c.args in
    rw (no_rows a.count a.rows.now a.target.now c.if-rows-count.true) (record { answered = refl; laid = refl })

pub returns-then-target-count : goal.returns-then-target-count
returns-then-target-count c = let a = c.args in
    rw (no_words a.count a.rows.now a.target.now c.if-rows-count.false c.if-target-count.true) (record { answered = refl; laid = refl })

pub returns : goal.returns
returns c = let a = c.args in
    rw (enough a.count a.rows.now a.target.now c.if-rows-count.false c.if-target-count.false) (record { answered = refl; laid = c.lay.ensures })
