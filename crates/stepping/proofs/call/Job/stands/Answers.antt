use mathlib.Core.Path.{refl}
use Rattle.stepping.specs.Ahead.{follow_plan, at_plan}
use Rattle.stepping.proofs.call.Job.stands.Goals as goal

pub returns-in-Sends : goal.returns-in-Sends
unfolding follow_plan
returns-in-Sends c = λ held g h gate. rw c.in-Sends.is (c.sends.ensures held g h gate)

pub returns-in-Waits : goal.returns-in-Waits
unfolding follow_plan
returns-in-Waits c = λ held g h gate. rw c.in-Waits.is (c.waits.ensures held g h gate)

pub returns-in-Gets : goal.returns-in-Gets
unfolding follow_plan
returns-in-Gets c = λ held g h gate. rw c.in-Gets.is (c.gets.ensures held g h)

pub returns-in-Idles : goal.returns-in-Idles
unfolding follow_plan
returns-in-Idles c = λ held g h gate. rw c.in-Idles.is (c.idles.ensures held g h)

pub returns-in-Tells : goal.returns-in-Tells
unfolding follow_plan at_plan
returns-in-Tells c = λ held g h gate. rw c.in-Tells.is refl

pub returns-in-Refuses : goal.returns-in-Refuses
unfolding follow_plan
returns-in-Refuses c = λ held g h gate. rw c.in-Refuses.is (c.closes.ensures held g h)

pub returns-in-Over : goal.returns-in-Over
unfolding follow_plan at_plan
returns-in-Over c = λ held g h gate. rw c.in-Over.is refl
