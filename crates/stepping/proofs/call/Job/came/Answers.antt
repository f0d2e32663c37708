use mathlib.Core.Path.{ap, ◌∙◌}
use Rattle.stepping.specs.declared.call.Then.{Then}
use Rattle.stepping.specs.Ahead.{then_next}
use Rattle.stepping.proofs.Follows as F
use Rattle.stepping.proofs.call.Job.came.Goals as goal

pub returns-in-Cmd0 : goal.returns-in-Cmd0
returns-in-Cmd0 c = λ ws h. rw c.in-Cmd0.is (ap (λ (t : Then). then_next c.args.self ws t h) c.and.ensures ∙ F.cmd0-on c.args.self c.args.known h ws c.args.words)

pub returns-in-Cmd8 : goal.returns-in-Cmd8
returns-in-Cmd8 c = λ ws h. rw c.in-Cmd8.is (c.versioned.ensures ws h)

pub returns-in-Power55 : goal.returns-in-Power55
returns-in-Power55 c = λ ws h. rw c.in-Power55.is (ap (λ (t : Then). then_next c.args.self ws t h) c.and-in-Power55.ensures ∙ c.power_told.ensures ws h)

pub returns-in-Power41 : goal.returns-in-Power41
returns-in-Power41 c = λ ws h. rw c.in-Power41.is (c.power_known.ensures ws h)

pub returns-in-Cmd2 : goal.returns-in-Cmd2
returns-in-Cmd2 c = λ ws h. rw c.in-Cmd2.is (c.named.ensures ws h)

pub returns-in-Cmd3 : goal.returns-in-Cmd3
returns-in-Cmd3 c = λ ws h. rw c.in-Cmd3.is (c.addressed.ensures ws h)

pub returns-in-Cmd9 : goal.returns-in-Cmd9
returns-in-Cmd9 c = λ ws h. rw c.in-Cmd9.is (c.described.ensures ws h)

pub returns-in-Cmd7 : goal.returns-in-Cmd7
returns-in-Cmd7 c = λ ws h. rw c.in-Cmd7.is (ap (λ (t : Then). then_next c.args.self ws t h) c.and-in-Cmd7.ensures ∙ F.cmd7-on c.args.self c.args.known h ws c.args.words)

pub returns-in-Cmd16 : goal.returns-in-Cmd16
returns-in-Cmd16 c = λ ws h. rw c.in-Cmd16.is (ap (λ (t : Then). then_next c.args.self ws t h) c.and-in-Cmd16.ensures ∙ rw c.tells_app.ensures (F.cmd16-on c.args.self c.args.known h ws c.args.words))

pub returns-in-Scr55 : goal.returns-in-Scr55
returns-in-Scr55 c = λ ws h. rw c.in-Scr55.is (ap (λ (t : Then). then_next c.args.self ws t h) c.and-in-Scr55.ensures ∙ c.scr_told.ensures ws h)

pub returns-in-Width55 : goal.returns-in-Width55
returns-in-Width55 c = λ ws h. rw c.in-Width55.is (ap (λ (t : Then). then_next c.args.self ws t h) c.and-in-Width55.ensures ∙ c.width_told.ensures ws h)

pub returns-in-Width6 : goal.returns-in-Width6
returns-in-Width6 c = λ ws h. rw c.in-Width6.is (c.transfers.ensures ws h ∙ F.width-set c.args.self c.args.known h ws c.args.words)
