use mathlib.Core.Path.{refl}
use Rattle.underway.proofs.ends.answer_for.Goals as goal

pub returns-in-Failed : goal.returns-in-Failed
returns-in-Failed c = rw c.in-Failed.is refl

pub returns-in-NoWord : goal.returns-in-NoWord
returns-in-NoWord c = rw c.in-NoWord.is refl
