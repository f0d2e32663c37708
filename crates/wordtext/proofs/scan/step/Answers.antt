use mathlib.Core.Path.{sym, ◌∙◌}
use native.Mathlib.Omega.{arith}
use Rattle.wordtext.proofs.Steps.{by-none, by_word, by-full}
use Rattle.wordtext.proofs.scan.step.Goals as goal

pub returns-in_default : goal.returns-in_default
returns-in_default c = let a = c.args in record {
  grows = omega arith;
  holds = rw (c.after-token.ensures, c.began-start.ensures)
      (by-none a.s a.at a.b a.words.now c.requires (sym c.completed.ensures ∙ c.in_default.is));
}

pub returns-then-s-words : goal.returns-then-s-words
returns-then-s-words c = let a = c.args in record {
  grows = omega arith;
  holds = rw (c.after-token.ensures, c.began-start.ensures)
      (by_word a.s a.at a.b a.words.now c.requires _ (sym c.completed.ensures ∙ c.in-Some.is) c.if-s-words.true);
}

pub returns : goal.returns
returns c = let a = c.args in record {
  grows = omega arith;
  holds = rw c.began-start.ensures
      (by-full a.s a.at a.b a.words.now c.requires _ (sym c.completed.ensures ∙ c.in-Some.is) c.if-s-words.false);
}
