use Rattle.std.proofs.Common.{ap, sym, ◌∙◌, arith, rules}
use lib.ListN.{drop_of_length-le}
use Rattle.desk.specs.Room.{room_from}
use Rattle.desk.proofs.Rooms.{too_large, all_read, below, above, digit, empty, long, short}
use Rattle.desk.proofs.room.read_room.Goals as goal
use Rattle.desk.proofs.room.read_room.Goals.{then-is_empty-via-then-is_empty, then-is_empty-via-else-is_empty+then-word-gt-DIGITS}

pub returns-then-is_empty : goal.returns-then-is_empty
returns-then-is_empty c =
    elim c.then-is_empty.branch [
      | then-is_empty-via-then-is_empty w ↦ sym (empty _ (search rules))
      | then-is_empty-via-else-is_empty+then-word-gt-DIGITS w ↦ sym (long _ (search rules) w.if-word-gt-DIGITS.true)
    ]

pub returns-in_default : goal.returns-in_default
returns-in_default c = let word = c.args.word.now in
    sym (short word (search rules) c.if-word-gt-DIGITS.false ∙ sym c.loop-b.invariant.1 ∙ below word c.loop-b.b-index c.loop-b.rows (omega arith) (omega arith))

pub returns-in_default-2 : goal.returns-in_default-2
returns-in_default-2 c = let word = c.args.word.now in
    sym (short word (search rules) c.if-word-gt-DIGITS.false ∙ sym c.loop-b.invariant.1 ∙ above word c.loop-b.b-index c.loop-b.rows (omega arith) (omega arith) (omega arith))

pub returns-then-rows-gt-MOST : goal.returns-then-rows-gt-MOST
returns-then-rows-gt-MOST c = let word = c.args.word.now in
    sym (short word (search rules) c.if-word-gt-DIGITS.false
    ∙ sym c.loop-b.invariant.1
    ∙ digit word c.loop-b.b-index c.loop-b.rows (omega arith) (omega arith) (omega arith)
    ∙ too_large _ _ c.if-rows-gt-MOST.true)

pub loop-b-preserved : goal.loop-b-preserved
loop-b-preserved c =
    (omega arith, sym (digit c.args.word.now c.loop-b.b-index c.loop-b.rows (omega arith) (omega arith) (omega arith)) ∙ c.loop-b.invariant.1)

pub returns : goal.returns
returns c = let word = c.args.word.now in
    let i = c.loop-b.b-index in
    sym (short word (search rules) c.if-word-gt-DIGITS.false
    ∙ sym c.loop-b.invariant.1
    ∙ ap (room_from c.loop-b.rows) (drop_of_length-le word {i = i} (omega arith))
    ∙ all_read _ c.loop-b.invariant.0)
