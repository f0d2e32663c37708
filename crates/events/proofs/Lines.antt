-- Lines of a table of status words: one that a word has, one that it does not have, and the table's end.
use Prim.Native.Nat.{ℕ, ◌+◌, ◌≤◌, ◌<◌}
use mathlib.Core.Bool.{Bool, true, false}
use mathlib.Core.List.{List, ◌∷◌, ◌++◌}
use mathlib.Core.Path.{◌≡◌}
use native.Mathlib.Numerals.{add-one}
use lib.ListN.{length, get_or, get_or-map, drop, length-map, drop_of_length-le}
use lib.Seq.{drop-cons}
use Rattle.types.specs.Bits.{clear}
use Rattle.text.specs.Pens.{written}
use Rattle.text.specs.declared.pen.Pen.{Pen}
use Rattle.text.proofs.Pens.{written_append}
use Rattle.events.specs.declared.flags.Flag.{Flag}
use Rattle.events.specs.Flags.{line_of, lines_of}
use Rattle.events.specs.Meaning.{joint, none_left, flags_text}

module _ (table : List Flag) (i status : ℕ) (said : Bool) where
  pub at_the_end : length table ≤ i → flags_text said (drop i (lines_of table)) status ≡ none_left said
  unfolding flags_text
  at_the_end h = rw (drop_of_length-le (lines_of table) {i = i} (rw length-map h))

  module _ (d : Flag) (h : i < length table) where
    from : drop i (lines_of table) ≡ line_of (get_or table i d) ∷ drop (i + 1) (lines_of table)
    from = rw (add-one i, ← get_or-map line_of table i d) (drop-cons (lines_of table) i (line_of d) (rw length-map h))

    pub not_had : clear (get_or table i d).mask status ≡ true → flags_text said (drop i (lines_of table)) status ≡ flags_text said (drop (i + 1) (lines_of table)) status
    unfolding flags_text
    not_had e = rw (from, e)

    had : clear (get_or table i d).mask status ≡ false
        → flags_text said (drop i (lines_of table)) status ≡ joint said ++ (get_or table i d).text.now ++ flags_text true (drop (i + 1) (lines_of table)) status
    unfolding flags_text
    had e = rw (from, e)

    -- the line is written behind the joint, and what is left is still to come
    pub told : (before : Pen) {joined after : Pen} → clear (get_or table i d).mask status ≡ false → joined ≡ written (joint said) before → after ≡ written (get_or table i d).text.now joined
        → written (flags_text said (drop i (lines_of table)) status) before ≡ written (flags_text true (drop (i + 1) (lines_of table)) status) after
    told before e p q =
        let text = (get_or table i d).text.now in
        rw (had e, written_append (joint said ++ text), written_append (joint said), q, p)
