use mathlib.Core.Path.{◌∙◌}
use Rattle.underway.specs.First.{first_plan, asked_by, line_by}
use Rattle.underway.proofs.Beginning as B
use Rattle.underway.proofs.begin.stands.Goals as goal

pub returns-in-Refused : goal.returns-in-Refused
unfolding first_plan asked_by line_by
returns-in-Refused c = λ asked held g h gate. rw c.in-Refused.is (B.refused-begins c.args.job c.args.known held g h _)

pub returns-in-Resets : goal.returns-in-Resets
unfolding first_plan asked_by line_by
returns-in-Resets c = λ asked held g h gate. rw c.in-Resets.is (B.resets-begins c.args.job c.args.known held g _ _ h (rw c.in-Resets.is at asked))

pub returns-in-Reads : goal.returns-in-Reads
unfolding first_plan asked_by line_by
returns-in-Reads c = λ asked held g h gate. rw c.in-Reads.is (c.waits.ensures held g h gate ∙ B.reads-begins c.args.job c.args.known held g _ _ h (rw c.in-Reads.is at asked))

pub returns-in-Sends : goal.returns-in-Sends
unfolding first_plan asked_by line_by
returns-in-Sends c = λ asked held g h gate. rw c.in-Sends.is (c.waits-in-Sends.ensures held g h gate ∙ B.sends-begins c.args.job c.args.known held g _ _ h (rw c.in-Sends.is at asked))

pub returns-in-App : goal.returns-in-App
unfolding first_plan asked_by line_by
returns-in-App c = λ asked held g h gate. rw c.in-App.is (c.app.ensures c.args.job c.args.known held g h gate ∙ B.app-begins c.args.job c.args.known held g h (rw c.in-App.is at asked))
