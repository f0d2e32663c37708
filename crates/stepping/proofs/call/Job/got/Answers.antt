use mathlib.Core.Path.{ap, ◌∙◌}
use Rattle.stepping.specs.declared.call.Then.{Then}
use Rattle.stepping.specs.Ahead.{phase_of, then_next, words_in}
use Rattle.step.specs.Transfer.{taken_by, sends_of, transfer_of}
use Rattle.stepping.proofs.Follows as F
use Rattle.stepping.specs.declared.call.Gets.TheVariants as G
use Rattle.stepping.proofs.call.Job.got.Goals as goal

pub returns-in-Asked : goal.returns-in-Asked
returns-in-Asked c = λ g h is. rw c.in-Asked.is (ap (λ (t : Then). then_next c.args.self (words_in c.args.self G.Asked c.args.held g) t h) c.and.ensures ∙ F.own-got c.args.self c.args.known h g (words_in c.args.self G.Asked c.args.held g))

pub returns-in-Scr : goal.returns-in-Scr
unfolding phase_of taken_by sends_of transfer_of
returns-in-Scr c = λ g h is. rw c.in-Scr.is (c.scr_read.ensures (words_in c.args.self G.Asked c.args.held g) h)

pub returns-in-Check : goal.returns-in-Check
unfolding phase_of taken_by sends_of transfer_of
returns-in-Check c = λ g h is. rw c.in-Check.is (ap (λ (t : Then). then_next c.args.self (words_in c.args.self G.Asked c.args.held g) t h) c.and-in-Check.ensures ∙ c.checked.ensures (words_in c.args.self G.Asked c.args.held g) h)

pub returns-in-Switch : goal.returns-in-Switch
unfolding phase_of taken_by sends_of transfer_of
returns-in-Switch c = λ g h is. rw c.in-Switch.is (ap (λ (t : Then). then_next c.args.self (words_in c.args.self G.Asked c.args.held g) t h) c.and-in-Switch.ensures ∙ c.switched.ensures (words_in c.args.self G.Asked c.args.held g) h is)
