use native.Mathlib.Omega.{arith}
use Rattle.step.specs.Next.{Handed}
use Rattle.step.specs.Transfer.{transfer_of, taken_by, kept_by}
use Rattle.step.proofs.Words.{put_more}
use Rattle.step.proofs.phase.Phase.kept.Goals as goal

pub returns-in-Scr : goal.returns-in-Scr
unfolding kept_by taken_by transfer_of Handed
returns-in-Scr c = record { set = rw c.in-Scr.is c.put.ensures.set; more = λ g g' small more. rw c.in-Scr.is (more.0, put_more c.args.held c.args.place c.args.word (let s = rw c.in-Scr.is at small in omega (arith, s)) c.put.ensures.long) }

pub returns-in-Check : goal.returns-in-Check
unfolding kept_by taken_by transfer_of Handed
returns-in-Check c = record { set = rw c.in-Check.is c.put-in-Check.ensures.set; more = λ g g' small more. rw c.in-Check.is (more.0, put_more c.args.held c.args.place c.args.word (let s = rw c.in-Check.is at small in omega (arith, s)) c.put-in-Check.ensures.long) }

pub returns-in-Switch : goal.returns-in-Switch
unfolding kept_by taken_by transfer_of Handed
returns-in-Switch c = record { set = rw c.in-Switch.is c.put-in-Switch.ensures.set; more = λ g g' small more. rw c.in-Switch.is (more.0, put_more c.args.held c.args.place c.args.word (let s = rw c.in-Switch.is at small in omega (arith, s)) c.put-in-Switch.ensures.long) }

pub returns-in-Status : goal.returns-in-Status
unfolding kept_by taken_by transfer_of Handed
returns-in-Status c = record { set = rw c.in-Status.is c.put-in-Status.ensures.set; more = λ g g' small more. rw c.in-Status.is (more.0, put_more c.args.held c.args.place c.args.word (let s = rw c.in-Status.is at small in omega (arith, s)) c.put-in-Status.ensures.long) }

pub returns-in-Blocks : goal.returns-in-Blocks
unfolding kept_by taken_by Handed
returns-in-Blocks c = record { set = rw c.in-Blocks.is; more = λ g g' small more. rw c.in-Blocks.is more }

pub returns-in-Sends : goal.returns-in-Sends
unfolding kept_by taken_by Handed
returns-in-Sends c = record { set = rw c.in-Sends.is; more = λ g g' small more. rw c.in-Sends.is more }
