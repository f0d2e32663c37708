use mathlib.Core.Path.{refl}
use Rattle.step.specs.Next.{Handed}
use Rattle.step.specs.Transfer.{reading_at, HandedAt, held_by, held_after}
use Rattle.step.proofs.Words.{place-fits}
use Rattle.step.proofs.transfer.Data.keeps.Goals as goal

pub returns-in-Idle : goal.returns-in-Idle
unfolding held_by held_after HandedAt reading_at Handed
returns-in-Idle c = record { kept = rw (c.in-Asks.is, c.in-Idle.is); handed = λ g g' more. rw (c.in-Asks.is, c.in-Idle.is, rw (c.in-Asks.is, c.in-Idle.is) at more) refl }

pub returns-in-First : goal.returns-in-First
unfolding held_by held_after HandedAt reading_at Handed
returns-in-First c = record { kept = rw (c.in-Asks.is, c.in-First.is); handed = λ g g' more. rw (c.in-Asks.is, c.in-First.is, rw (c.in-Asks.is, c.in-First.is) at more) refl }

pub returns-in-FirstDma : goal.returns-in-FirstDma
unfolding held_by held_after HandedAt reading_at Handed
returns-in-FirstDma c = record { kept = rw (c.in-Asks.is, c.in-FirstDma.is); handed = λ g g' more. rw (c.in-Asks.is, c.in-FirstDma.is, rw (c.in-Asks.is, c.in-FirstDma.is) at more) refl }

pub returns-in-Again : goal.returns-in-Again
unfolding held_by held_after HandedAt reading_at Handed
returns-in-Again c = record { kept = rw (c.in-Asks.is, c.in-Again.is); handed = λ g g' more. rw (c.in-Asks.is, c.in-Again.is, rw (c.in-Asks.is, c.in-Again.is) at more) refl }

pub returns-in-AgainDma : goal.returns-in-AgainDma
unfolding held_by held_after HandedAt reading_at Handed
returns-in-AgainDma c = record { kept = rw (c.in-Asks.is, c.in-AgainDma.is); handed = λ g g' more. rw (c.in-Asks.is, c.in-AgainDma.is, rw (c.in-Asks.is, c.in-AgainDma.is) at more) refl }

pub returns-in-Count : goal.returns-in-Count
unfolding held_by held_after HandedAt reading_at Handed
returns-in-Count c = record { kept = rw (c.in-Asks.is, c.in-Count.is); handed = λ g g' more. rw (c.in-Asks.is, c.in-Count.is, rw (c.in-Asks.is, c.in-Count.is) at more) refl }

pub returns-in-Word : goal.returns-in-Word
unfolding held_by held_after HandedAt reading_at Handed
returns-in-Word c = record { kept = rw (c.in-Asks.is, c.in-Word.is, ← c.place.ensures) c.kept.ensures.set; handed = λ g g' more. rw (c.in-Asks.is, c.in-Word.is) (rw c.place.ensures at (c.kept.ensures.more g g') (place-fits _ _) (rw (c.in-Asks.is, c.in-Word.is) at more)) }

pub returns-in-Tells : goal.returns-in-Tells
unfolding held_by HandedAt
returns-in-Tells c = record { kept = rw c.in-Tells.is; handed = λ g g' more. rw (c.in-Tells.is, rw c.in-Tells.is at more) refl }

pub returns-in-Sends : goal.returns-in-Sends
unfolding held_by HandedAt
returns-in-Sends c = record { kept = rw c.in-Sends.is; handed = λ g g' more. rw (c.in-Sends.is, rw c.in-Sends.is at more) refl }

pub returns-in-Start : goal.returns-in-Start
unfolding held_by HandedAt
returns-in-Start c = record { kept = rw c.in-Start.is; handed = λ g g' more. rw (c.in-Start.is, rw c.in-Start.is at more) refl }

pub returns-in-Stop : goal.returns-in-Stop
unfolding held_by HandedAt
returns-in-Stop c = record { kept = rw c.in-Stop.is; handed = λ g g' more. rw (c.in-Stop.is, rw c.in-Stop.is at more) refl }

pub returns-in-Ready : goal.returns-in-Ready
unfolding held_by HandedAt
returns-in-Ready c = record { kept = rw c.in-Ready.is; handed = λ g g' more. rw (c.in-Ready.is, rw c.in-Ready.is at more) refl }
