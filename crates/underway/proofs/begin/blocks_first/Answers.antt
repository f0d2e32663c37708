use mathlib.Core.Path.{sym, ◌∙◌}
use native.Mathlib.Omega.{arith}
use Rattle.underway.specs.First.{first_plan}
use Rattle.host.proofs.Ran.{judged-good}
use Rattle.underway.proofs.Beginning as B
use Rattle.underway.proofs.begin.blocks_first.Goals as goal

pub overflow_cast-bytes : goal.overflow_cast-bytes
overflow_cast-bytes c = let place = judged-good _ _ _ _ _ (sym c.judged-answer.ensures ∙ c.in-Ok.is) in omega (arith, place.most)

pub returns-in-Ok : goal.returns-in-Ok
returns-in-Ok c = let asked = c.args in
    λ sent. c.moves.ensures _ sent ∙ B.moved_call asked.host asked.sends asked.index asked.bytes sent _ (sym c.judged-answer.ensures ∙ c.in-Ok.is)

pub returns-in-Err : goal.returns-in-Err
unfolding first_plan
returns-in-Err c = let asked = c.args in
    λ sent. B.refused-call asked.host asked.sends asked.index asked.bytes sent _ (sym c.judged-answer.ensures ∙ c.in-Err.is)
