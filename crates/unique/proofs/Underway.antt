-- A line for each public function of `underway`.
use mathlib.Core.List.{[]}
use mathlib.Core.Path.{sym, ◌∙◌}
use Rattle.step.specs.Next.{Lent, want_of, HandedBy}
use Rattle.underway.specs.Under.{Under, under}
use Rattle.feed.specs.Turns.{lent}
use Rattle.underway.proofs.call
use Rattle.underway.proofs.rows
use Rattle.unique.specs.Unique.{Unique, UniqueIn}
use Rattle.unique.proofs.Determined.{determined, part-determined}
use Rattle.unique.proofs.Step.{wants_told}

rows_row : Unique rows.row.Kinds.ps rows.row.Kinds.r rows.row.Reads.Learnt
rows_row = determined _ λ _ _ _ p. p

rows-after : Unique rows.after.Kinds.ps rows.after.Kinds.r rows.after.Reads.Learnt
rows-after = determined _ λ _ _ _ p. p

-- what a call under way waits for, and what it has come to
steps_call_wants : Unique call.Call.wants.Kinds.ps call.Call.wants.Kinds.r call.Call.wants.Reads.Learnt
steps_call_wants = record { same = λ _ _ x y p q i. (wants_told x.0 y.0 (λ sent. p (lent sent []) ∙ sym (q (lent sent []))) i, x.1) }

ends-call-closed : Unique call.Call.closed.Kinds.ps call.Call.closed.Kinds.r call.Call.closed.Reads.Learnt
ends-call-closed = determined _ λ _ _ _ p. p (lent [] [])

-- Exceptions: a call under way. The host before it and what is ahead of it are promised, whatever words were handed out, and not
-- the state: two that differ in what is never looked at again are the same.

begin_call_init_card : UniqueIn call.Call.init_card.Kinds.ps call.Call.init_card.Kinds.r call.Call.init_card.Reads.Learnt
    {X = λ _ _. Lent → Under}
    (λ _ _ x g. under g x.0)
begin_call_init_card = part-determined _ λ _ _ _ p i g. p g i

begin_call_read_blocks : UniqueIn call.Call.read_blocks.Kinds.ps call.Call.read_blocks.Kinds.r call.Call.read_blocks.Reads.Learnt
    {X = λ _ _. Lent → Under}
    (λ _ _ x g. under g x.0)
begin_call_read_blocks = part-determined _ λ _ _ _ p i g. p g i

begin_call_write_blocks : UniqueIn call.Call.write_blocks.Kinds.ps call.Call.write_blocks.Kinds.r call.Call.write_blocks.Reads.Learnt
    {X = λ _ _. Lent → Under}
    (λ _ _ x g. under g x.0)
begin_call_write_blocks = part-determined _ λ _ _ _ p i g. p g i

begin_call_read_sd_status : UniqueIn call.Call.read_sd_status.Kinds.ps call.Call.read_sd_status.Kinds.r call.Call.read_sd_status.Reads.Learnt
    {X = λ _ _. Lent → Under}
    (λ _ _ x g. under g x.0)
begin_call_read_sd_status = part-determined _ λ _ _ _ p i g. p g i

steps-call-fed : UniqueIn call.Call.fed.Kinds.ps call.Call.fed.Kinds.r call.Call.fed.Reads.Learnt
    {X = λ _ a. (g g' : Lent) → HandedBy (want_of (under g a.0).ahead) a.1.0 g g' → Under}
    (λ _ _ x g g' handed. under g' x.0)
steps-call-fed = part-determined _ λ _ _ _ p i g g' handed. p g g' handed i

steps-call-missed : UniqueIn call.Call.missed.Kinds.ps call.Call.missed.Kinds.r call.Call.missed.Reads.Learnt
    {X = λ _ _. Lent → Under}
    (λ _ _ x g. under g x.0)
steps-call-missed = part-determined _ λ _ _ _ p i g. p g i

steps-call-went : UniqueIn call.Call.went.Kinds.ps call.Call.went.Kinds.r call.Call.went.Reads.Learnt
    {X = λ _ _. Lent → Under}
    (λ _ _ x g. under g x.0)
steps-call-went = part-determined _ λ _ _ _ p i g. p g i
