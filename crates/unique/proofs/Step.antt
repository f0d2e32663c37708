-- A line for each public function of `step`.
use Rattle.std.specs.Prelude.{Option, Some, None}
use Prim.Native.Nat.{ℕ, zero, suc}
use mathlib.Core.List.{List, [], ◌∷◌}
use mathlib.Core.Path.{◌≡◌, refl, ap, sym, ◌∙◌}
use native.Mathlib.Omega.{arith}
use lib.ListN.{get_or}
use Rattle.tape.specs.declared.progress.Line.{Line}
use Rattle.tape.specs.declared.rows.Row.{Row}
use Rattle.tape.specs.Plan.{Nothing}
use Rattle.bus.specs.declared.transfer.Transfer.{Transfer}
use Rattle.step.specs.declared.arm.Arm.TheVariants as A
use Rattle.step.specs.declared.arm.Stop.TheVariants as S
use Rattle.step.specs.declared.reset.Reset.TheVariants as R
use Rattle.step.specs.Arm.{arm_rest, arm_next, stop_rest, stop_next}
use Rattle.step.specs.Command.{begun_next, command_next, command_plan}
use Rattle.step.specs.declared.wants.Wants.{Wants}
use Rattle.step.specs.declared.wants.Wants.TheVariants as W
use Rattle.step.specs.Next.{Next, Lent, line_after, next, filled_in}
use Rattle.feed.specs.Turns.{lent}
use Rattle.step.specs.Ready.{ready_next, ready_plan, waits_next}
use Rattle.step.specs.Reset.{rest_left, step_left}
use Rattle.step.specs.Transfer.{data_next, data_plan, HandedAt}
use Rattle.step.proofs.arm
use Rattle.step.proofs.command
use Rattle.step.proofs.phase
use Rattle.step.proofs.ready
use Rattle.step.proofs.reset
use Rattle.step.proofs.transfer
use Rattle.unique.specs.Unique.{Unique, UniqueIn}
use Rattle.unique.proofs.Determined.{determined, part-determined}
use Rattle.step.specs.declared.reset.Reset.{Reset}
use Rattle.step.specs.declared.arm.Arm.{Arm}
use Rattle.step.specs.declared.arm.Stop.{Stop}

arm-arm-row : Unique arm.Arm.row.Kinds.ps arm.Arm.row.Kinds.r arm.Arm.row.Reads.Learnt
arm-arm-row = determined _ λ _ _ _ p. p

arm_stop_row : Unique arm.Stop.row.Kinds.ps arm.Stop.row.Kinds.r arm.Stop.row.Reads.Learnt
arm_stop_row = determined _ λ _ _ _ p. p

reset-reset-row : Unique reset.Reset.row.Kinds.ps reset.Reset.row.Kinds.r reset.Reset.row.Reads.Learnt
reset-reset-row = determined _ λ _ _ _ p. p

command-words-list : Unique command.Words.list.Kinds.ps command.Words.list.Kinds.r command.Words.list.Reads.Learnt
command-words-list = determined _ λ _ _ _ p. p

command_asks_reading : Unique command.Asks.reading.Kinds.ps command.Asks.reading.Kinds.r command.Asks.reading.Reads.Learnt
command_asks_reading = determined _ λ _ _ _ p. p

command_command_wants : Unique command.Command.wants.Kinds.ps command.Command.wants.Kinds.r command.Command.wants.Reads.Learnt
command_command_wants = determined _ λ _ _ _ p. p

ready_ready_wants : Unique ready.Ready.wants.Kinds.ps ready.Ready.wants.Kinds.r ready.Ready.wants.Reads.Learnt
ready_ready_wants = determined _ λ _ _ _ p. p

phase-phase-transfer : Unique phase.Phase.transfer.Kinds.ps phase.Phase.transfer.Kinds.r phase.Phase.transfer.Reads.Learnt
phase-phase-transfer = determined _ λ _ _ _ p. p

phase-phase-sends : Unique phase.Phase.sends.Kinds.ps phase.Phase.sends.Kinds.r phase.Phase.sends.Reads.Learnt
phase-phase-sends = determined _ λ _ _ _ p. p

phase-phase-top : Unique phase.Phase.top.Kinds.ps phase.Phase.top.Kinds.r phase.Phase.top.Reads.Learnt
phase-phase-top = determined _ λ _ _ _ p. p

phase-phase-place : Unique phase.Phase.place.Kinds.ps phase.Phase.place.Kinds.r phase.Phase.place.Reads.Learnt
phase-phase-place = determined _ λ _ _ _ p. p

phase-phase-kept : Unique phase.Phase.kept.Kinds.ps phase.Phase.kept.Kinds.r phase.Phase.kept.Reads.Learnt
phase-phase-kept = determined _ λ _ _ _ p. p.0

-- What is wanted is told by what it comes to with the words to send, whatever they are: of two places, one list of words has a
-- 1 at the first alone.

marked : ℕ → List ℕ
marked zero = 1 ∷ []
marked (suc k) = 0 ∷ marked k

at_mark : (k : ℕ) → get_or (marked k) k 0 ≡ 1
unfolding marked
at_mark zero = refl
at_mark (suc k) = at_mark k

one_mark : (k k' : ℕ) → get_or (marked k) k 0 ≡ get_or (marked k) k' 0 → k ≡ k'
unfolding marked
one_mark zero zero e = refl
one_mark zero (suc k') e = absurd (omega (arith, e))
one_mark (suc k) zero e = absurd (omega (arith, at_mark k, e))
one_mark (suc k) (suc k') e = ap suc (one_mark k k' e)

abbrev value_of : Wants → ℕ
value_of (W.Read r) = 0
value_of (W.Write r) = r.value
value_of (W.Send k) = 0
value_of W.Nothing = 0

abbrev kind_of : Wants → ℕ
kind_of (W.Read r) = 0
kind_of (W.Write r) = 1
kind_of (W.Send k) = 2
kind_of W.Nothing = 3

-- a row is the same with every list of words
no_row : (k : ℕ) (r : Row) → ((sent : List ℕ) → filled_in sent (W.Send k) ≡ W.Write r) → ⊥
unfolding filled_in
no_row k r e = omega (arith, at_mark k, ap value_of (e (marked k)), ap value_of (e []))

pub wants_told : (x y : Wants) → ((sent : List ℕ) → filled_in sent x ≡ filled_in sent y) → x ≡ y
unfolding filled_in
wants_told (W.Read r) (W.Read r') e = e []
wants_told (W.Read r) (W.Write r') e = e []
wants_told (W.Read r) (W.Send k) e = absurd (omega (arith, ap kind_of (e [])))
wants_told (W.Read r) W.Nothing e = e []
wants_told (W.Write r) (W.Read r') e = e []
wants_told (W.Write r) (W.Write r') e = e []
wants_told (W.Write r) (W.Send k) e = absurd (no_row k r (λ sent. sym (e sent)))
wants_told (W.Write r) W.Nothing e = e []
wants_told (W.Send k) (W.Read r') e = absurd (omega (arith, ap kind_of (e [])))
wants_told (W.Send k) (W.Write r') e = absurd (no_row k r' e)
wants_told (W.Send k) (W.Send k') e = ap W.Send (one_mark k k' (ap value_of (e (marked k))))
wants_told (W.Send k) W.Nothing e = absurd (omega (arith, ap kind_of (e [])))
wants_told W.Nothing (W.Read r') e = e []
wants_told W.Nothing (W.Write r') e = e []
wants_told W.Nothing (W.Send k) e = absurd (omega (arith, ap kind_of (e [])))
wants_told W.Nothing W.Nothing e = refl

transfer_data_wants : Unique transfer.Data.wants.Kinds.ps transfer.Data.wants.Kinds.r transfer.Data.wants.Reads.Learnt
transfer_data_wants = record { same = λ _ _ x y p q i. (wants_told x.0 y.0 (λ sent. p (lent sent []) ∙ sym (q (lent sent []))) i, x.1) }

transfer_data_keeps : Unique transfer.Data.keeps.Kinds.ps transfer.Data.keeps.Kinds.r transfer.Data.keeps.Reads.Learnt
transfer_data_keeps = determined _ λ _ _ _ p. p.0

-- no transfer
abbrev none : Transfer
none = record { index = 0; argument = 0; block_size = 0; words = 0 }

-- After a row: which one comes next is told by how many are left.

abbrev arm_at : List Row → Option Arm
arm_at [] = None
arm_at (_ ∷ []) = Some A.Dlen
arm_at (_ ∷ _ ∷ []) = Some A.Dtimer
arm_at (_ ∷ _ ∷ _ ∷ []) = Some A.Icr
arm_at (_ ∷ _ ∷ _ ∷ _ ∷ []) = Some A.Off
arm_at (_ ∷ _ ∷ _ ∷ _ ∷ _ ∷ []) = Some A.Mask
arm_at (_ ∷ _ ∷ _ ∷ _ ∷ _ ∷ _ ∷ _) = Some A.Dctrl2

arm-told : (timeout : ℕ) (transfer : Transfer) (s : Option Arm) → s ≡ arm_at (arm_next timeout transfer s)
unfolding arm_next arm_rest
arm-told timeout transfer (Some A.Dctrl2) = refl
arm-told timeout transfer (Some A.Mask) = refl
arm-told timeout transfer (Some A.Off) = refl
arm-told timeout transfer (Some A.Icr) = refl
arm-told timeout transfer (Some A.Dtimer) = refl
arm-told timeout transfer (Some A.Dlen) = refl
arm-told timeout transfer None = refl

arm-arm-after : Unique arm.Arm.after.Kinds.ps arm.Arm.after.Kinds.r arm.Arm.after.Reads.Learnt
arm-arm-after = determined _ λ _ _ x p. arm-told 0 none x.0 ∙ ap arm_at (p 0 none)

abbrev stop_at : List Row → Option Stop
stop_at [] = None
stop_at (_ ∷ []) = Some S.Icr
stop_at (_ ∷ _ ∷ []) = Some S.Dctrl
stop_at (_ ∷ _ ∷ _ ∷ _) = Some S.Mask

stop_told : (s : Option Stop) → s ≡ stop_at (stop_next s)
unfolding stop_next stop_rest
stop_told (Some S.Mask) = refl
stop_told (Some S.Dctrl) = refl
stop_told (Some S.Icr) = refl
stop_told None = refl

arm_stop_after : Unique arm.Stop.after.Kinds.ps arm.Stop.after.Kinds.r arm.Stop.after.Reads.Learnt
arm_stop_after = determined _ λ _ _ x p. stop_told x.0 ∙ ap stop_at p

abbrev reset_at : List Row → Option Reset
reset_at [] = None
reset_at (_ ∷ []) = Some R.Icr
reset_at (_ ∷ _ ∷ []) = Some R.Dlen
reset_at (_ ∷ _ ∷ _ ∷ []) = Some R.Dtimer
reset_at (_ ∷ _ ∷ _ ∷ _ ∷ []) = Some R.Arg
reset_at (_ ∷ _ ∷ _ ∷ _ ∷ _ ∷ []) = Some R.Clkcr
reset_at (_ ∷ _ ∷ _ ∷ _ ∷ _ ∷ _ ∷ []) = Some R.Power
reset_at (_ ∷ _ ∷ _ ∷ _ ∷ _ ∷ _ ∷ _ ∷ []) = Some R.Cmd
reset_at (_ ∷ _ ∷ _ ∷ _ ∷ _ ∷ _ ∷ _ ∷ _ ∷ []) = Some R.Dctrl
reset_at (_ ∷ _ ∷ _ ∷ _ ∷ _ ∷ _ ∷ _ ∷ _ ∷ _ ∷ []) = Some R.Dctrl2
reset_at (_ ∷ _ ∷ _ ∷ _ ∷ _ ∷ _ ∷ _ ∷ _ ∷ _ ∷ _ ∷ _) = Some R.Mask

reset-told : (s : Option Reset) → s ≡ reset_at (step_left s)
unfolding step_left rest_left
reset-told (Some R.Mask) = refl
reset-told (Some R.Dctrl2) = refl
reset-told (Some R.Dctrl) = refl
reset-told (Some R.Cmd) = refl
reset-told (Some R.Power) = refl
reset-told (Some R.Clkcr) = refl
reset-told (Some R.Arg) = refl
reset-told (Some R.Dtimer) = refl
reset-told (Some R.Dlen) = refl
reset-told (Some R.Icr) = refl
reset-told None = refl

reset-reset-after : Unique reset.Reset.after.Kinds.ps reset.Reset.after.Kinds.r reset.Reset.after.Reads.Learnt
reset-reset-after = determined _ λ _ _ x p. reset-told x.0 ∙ ap reset_at p

-- Exceptions: a state under way. What is ahead of it is promised, whatever the host holds, and not the state: two that differ in
-- what is never looked at again are the same.

command_command_begin : UniqueIn command.Command.begin.Kinds.ps command.Command.begin.Kinds.r command.Command.begin.Reads.Learnt
    {X = λ _ _. Line → Next (List ℕ)}
    (λ _ _ x h. begun_next x.0 h)
command_command_begin = part-determined _ λ _ _ _ p i h. p h i

command-command-fed : UniqueIn command.Command.fed.Kinds.ps command.Command.fed.Kinds.r command.Command.fed.Reads.Learnt
    {X = λ _ _. Line → Next (List ℕ)}
    (λ _ _ x h. command_next x.0 h)
command-command-fed = part-determined _ λ _ _ _ p i h. p h i

command-command-missed : UniqueIn command.Command.missed.Kinds.ps command.Command.missed.Kinds.r command.Command.missed.Reads.Learnt
    {X = λ _ _. Line → Next (List ℕ)}
    (λ _ _ x h. command_next x.0 h)
command-command-missed = part-determined _ λ _ _ _ p i h. p h i

command-command-went : UniqueIn command.Command.went.Kinds.ps command.Command.went.Kinds.r command.Command.went.Reads.Learnt
    {X = λ _ _. Line → Next (List ℕ)}
    (λ _ a x h. command_next x.0 (line_after (next (command_plan a.0) h)))
command-command-went = part-determined _ λ _ _ _ p i h. p h i

ready_bus_wait_ready : UniqueIn ready.Bus.wait_ready.Kinds.ps ready.Bus.wait_ready.Kinds.r ready.Bus.wait_ready.Reads.Learnt
    {X = λ _ a. (h : Line) → h.gated ≡ a.1.0 → Next Nothing}
    (λ _ a x h same. waits_next a.0 x.0 h)
ready_bus_wait_ready = part-determined _ λ _ _ _ p i h same. p h same i

ready-bus-tries : UniqueIn ready.Bus.tries.Kinds.ps ready.Bus.tries.Kinds.r ready.Bus.tries.Reads.Learnt
    {X = λ _ _. Line → Next Nothing}
    (λ _ a x h. ready_next a.0 x.0 h)
ready-bus-tries = part-determined _ λ _ _ _ p i h. p h i

ready-ready-fed : UniqueIn ready.Ready.fed.Kinds.ps ready.Ready.fed.Kinds.r ready.Ready.fed.Reads.Learnt
    {X = λ _ _. Line → Next Nothing}
    (λ _ a x h. ready_next a.1.0 x.0 h)
ready-ready-fed = part-determined _ λ _ _ _ p i h. p h i

ready-ready-missed : UniqueIn ready.Ready.missed.Kinds.ps ready.Ready.missed.Kinds.r ready.Ready.missed.Reads.Learnt
    {X = λ _ _. Line → Next Nothing}
    (λ _ a x h. ready_next a.1.0 x.0 h)
ready-ready-missed = part-determined _ λ _ _ _ p i h. p h i

ready-ready-went : UniqueIn ready.Ready.went.Kinds.ps ready.Ready.went.Kinds.r ready.Ready.went.Reads.Learnt
    {X = λ _ a. (h : Line) → h.gated ≡ a.1.1.0 → Next Nothing}
    (λ _ a x h same. ready_next a.1.0 x.0 (line_after (next (ready_plan a.1.0 a.0) h)))
ready-ready-went = part-determined _ λ _ _ _ p i h same. p h same i

transfer_bus_begin_data : UniqueIn ready.Bus.begin_data.Kinds.ps ready.Bus.begin_data.Kinds.r ready.Bus.begin_data.Reads.Learnt
    {X = λ _ _. Lent → Line → Next (List ℕ)}
    (λ _ a x ws h. next (data_plan a.0 a.1.0 ws x.0) h)
transfer_bus_begin_data = part-determined _ λ _ _ _ p i ws h. p ws h i

transfer_data_fed : UniqueIn transfer.Data.fed.Kinds.ps transfer.Data.fed.Kinds.r transfer.Data.fed.Reads.Learnt
    {X = λ _ a. (ws ws' : Lent) (h : Line) → h.gated ≡ a.1.1.1.0 → HandedAt a.1.1.0 a.0 a.1.1.1.1.0 ws ws' → Next (List ℕ)}
    (λ _ a x ws ws' h same handed. data_next a.1.0 a.1.1.0 ws' x.0 h)
transfer_data_fed = part-determined _ λ _ _ _ p i ws ws' h same handed. p ws ws' h same handed i

transfer_data_missed : UniqueIn transfer.Data.missed.Kinds.ps transfer.Data.missed.Kinds.r transfer.Data.missed.Reads.Learnt
    {X = λ _ a. Lent → (h : Line) → h.gated ≡ a.1.1.1.0 → Next (List ℕ)}
    (λ _ a x ws h same. data_next a.1.0 a.1.1.0 ws x.0 h)
transfer_data_missed = part-determined _ λ _ _ _ p i ws h same. p ws h same i

transfer_data_went : UniqueIn transfer.Data.went.Kinds.ps transfer.Data.went.Kinds.r transfer.Data.went.Reads.Learnt
    {X = λ _ a. Lent → (h : Line) → h.gated ≡ a.1.1.1.0 → Next (List ℕ)}
    (λ _ a x ws h same. data_next a.1.0 a.1.1.0 ws x.0 (line_after (next (data_plan a.1.0 a.1.1.0 ws a.0) h)))
transfer_data_went = part-determined _ λ _ _ _ p i ws h same. p ws h same i
