use mathlib.Core.Path.{sym, ◌∙◌}
use native.Mathlib.Omega.{arith}
use lib.ListN.{get_or-eq_default}
use Rattle.types.specs.Words.{words_of}
use Rattle.types.proofs.Back.{length-words, word-is}
use Rattle.feed.proofs.turn.word_at.Goals as goal

pub returns-then-data-k : goal.returns-then-data-k
returns-then-data-k c = let a = c.args in
    sym (get_or-eq_default (words_of a.data.now) 0 (rw (length-words a.data.now) c.if-data-k.true))

pub returns : goal.returns
returns c = let a = c.args in
    c.little.ensures ∙ sym (word-is a.k a.data.now (omega (arith, c.if-data-k.false)))
