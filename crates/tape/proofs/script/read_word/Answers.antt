use borrow.Author.Tests.{le-ltb, lt-ltb}
use mathlib.Core.Path.{sym, ◌∙◌}
use native.Mathlib.Omega.{arith}
use Rattle.reader.proofs.Tells.{inside, is_word, outside}
use Rattle.tape.specs.Run.{run}
use Rattle.tape.specs.Steps.{word}
use Rattle.tape.proofs.Behind.{at-used, in_used, past-used}
use Rattle.tape.proofs.Took.{took}
use Rattle.tape.proofs.script.read_word.Goals as goal

pub returns-in_default : goal.returns-in_default
unfolding run word
returns-in_default c = let after = c.requires.0 in
    let past = outside _ _ (sym c.in_default.is ∙ c.word.ensures) in
    λ kind s l part. took (rw (le-ltb _ _ (past-used part after past)))

-- a word was found, so it lies inside the script, and one word more can be counted
pub overflow_add-head : goal.overflow_add-head
overflow_add-head c = let here = inside _ _ _ (sym c.in-Some.is ∙ c.word.ensures) in
    omega (arith, here, c.requires.0, c.requires.1)

pub returns : goal.returns
unfolding run word
returns c = let after = c.requires.0 in
    let same = sym c.in-Some.is ∙ c.word.ensures in
    λ kind s l part. took (rw (lt-ltb _ _ (in_used part after (inside _ _ _ same)), at-used part after, is_word _ _ _ same))
