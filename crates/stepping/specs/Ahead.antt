-- What is ahead of a call at each of its places. `g` are the words that it is to send, and those that were handed out so far.
use Rattle.std.specs.Prelude.{ℕ, suc, Bool, true, false, List, Option, Some, None}
use Rattle.types.specs.Leaf.{rounded_up}
use Rattle.types.specs.declared.card.Card.{Card}
use Rattle.types.specs.declared.card.Signalling.TheVariants.{SDR25}
use Rattle.types.specs.declared.clock.Clock.{Clock}
use Rattle.tape.specs.declared.progress.Line.{Line}
use Rattle.tape.specs.declared.rows.Row.{Row}
use Rattle.tape.specs.Plan.{Nothing, Plan, give, refuse}
use Rattle.tape.specs.Rows.{POWER, CLKCR, DELAY, clkcr_of, clken_of}
use Rattle.tape.specs.Steps.{row, wait_idle, set_clken}
use Rattle.bus.specs.Command.{command}
use Rattle.bus.specs.Ready.{retry_delay, wait_ready}
use Rattle.init.specs.Initialise.{source_of, timed_out, no_clock, card_of, with_scr}
use Rattle.host.specs.declared.host.Sdmmc.{Sdmmc}
use Rattle.step.specs.declared.ready.Bus.{Bus}
use Rattle.step.specs.declared.phase.Phase.{Phase}
use Rattle.step.specs.declared.phase.Phase.TheVariants as P
use Rattle.step.specs.Command.{command_plan, list_of}
use Rattle.step.specs.Context.{Context, whole, inside, plug, and_then}
use Rattle.step.specs.Next.{Next, next, Lent}
use Rattle.step.specs.Ready.{ready_plan}
use Rattle.step.specs.Reset.{reset_row, rest_left, rows_left}
use Rattle.step.specs.Rows.{row_of, rows_from}
use Rattle.step.specs.Transfer.{all_of, words_by, phase_plan, data_plan}
use Rattle.step.specs.Why.{cause_of}
use Rattle.step.specs.declared.why.Why.{Why}
use Rattle.step.specs.declared.why.Why.TheVariants as Y
use Rattle.stepping.specs.Closing.{Closing, keeping, dropping, finding, accepting, blocks_host, status_host}
use Rattle.stepping.specs.Sites as Sites
use Rattle.stepping.specs.declared.call.Asked.{Asked}
use Rattle.stepping.specs.declared.call.Asked.TheVariants as Q
use Rattle.stepping.specs.declared.call.At.{At}
use Rattle.stepping.specs.declared.call.At.TheVariants as A
use Rattle.stepping.specs.declared.call.Change.{Change}
use Rattle.stepping.specs.declared.call.Change.TheVariants as C
use Rattle.stepping.specs.declared.call.End.{End}
use Rattle.stepping.specs.declared.call.End.TheVariants as Z
use Rattle.stepping.specs.declared.call.Follow.{Follow}
use Rattle.stepping.specs.declared.call.Follow.TheVariants as F
use Rattle.stepping.specs.declared.call.Gets.{Gets}
use Rattle.stepping.specs.declared.call.Gets.TheVariants as G
use Rattle.stepping.specs.declared.call.Job.{Job}
use Rattle.stepping.specs.declared.call.Known.{Known}
use Rattle.stepping.specs.declared.call.Sent.{Sent}
use Rattle.stepping.specs.declared.call.Sent.TheVariants as S
use Rattle.stepping.specs.declared.call.Site.{Site}
use Rattle.stepping.specs.declared.call.Site.TheVariants as T
use Rattle.stepping.specs.declared.call.Stand.{Stand}
use Rattle.stepping.specs.declared.call.Then.{Then}
use Rattle.stepping.specs.declared.call.Waiting.{Waiting}
use Rattle.stepping.specs.declared.call.Waiting.TheVariants as W
use Rattle.stepping.specs.declared.call.Writes.{Writes}
use Rattle.stepping.specs.declared.call.Writes.TheVariants as R
use Rattle.step.specs.declared.reset.Reset.{Reset}

-- the record of a card that said this of itself, its SCR not read yet
abbrev pub card_by : Known → Card
card_by k = card_of k.ocr k.rca (list_of k.cid) (list_of k.csd) k.blocks

-- what was asked: the clock of identification and the frequency of an initialisation, the data phase and the next host of the
-- other calls; zeros, or the SD status, where that was not asked for
unfoldable pub initial_of : Asked → Clock
initial_of (Q.Card c f) = c
initial_of Q.Status = no_clock
initial_of (Q.Blocks a n) = no_clock
initial_of (Q.Sends a n) = no_clock

unfoldable pub frequency_of : Asked → ℕ
frequency_of (Q.Card c f) = f
frequency_of Q.Status = 0
frequency_of (Q.Blocks a n) = 0
frequency_of (Q.Sends a n) = 0

unfoldable pub phase_by : Asked → Phase
phase_by (Q.Card c f) = P.Status
phase_by Q.Status = P.Status
phase_by (Q.Blocks a n) = P.Blocks a n
phase_by (Q.Sends a n) = P.Sends a n

unfoldable pub host_by : Asked → Sdmmc → Line → List ℕ → Sdmmc
host_by (Q.Card c f) host = status_host host
host_by Q.Status host = status_host host
host_by (Q.Blocks a n) host = blocks_host host
host_by (Q.Sends a n) host = blocks_host host

-- Timeout at CMD8 is no refusal; that no word will come is one
unfoldable pub excused : Why → Bool
excused (Y.Failed e) = timed_out e
excused Y.NoWord = false

unfoldable pub forgiven : Sent → Why → Bool
forgiven S.Cmd0 why = false
forgiven S.Cmd8 why = excused why
forgiven (S.Power55 n) why = false
forgiven (S.Power41 n) why = false
forgiven S.Cmd2 why = false
forgiven S.Cmd3 why = false
forgiven S.Cmd9 why = false
forgiven S.Cmd7 why = false
forgiven S.Cmd16 why = false
forgiven S.Scr55 why = false
forgiven S.Width55 why = false
forgiven S.Width6 why = false

-- a data phase, by the call and where it stands in it
unfoldable pub phase_of : Asked → Gets → Phase
phase_of q G.Asked = phase_by q
phase_of q G.Scr = P.Scr
phase_of q G.Check = P.Check
phase_of q G.Switch = P.Switch

-- what the host holds once a clock row is written: the clock that is set, gated from there on, and the signalling with it
unfoldable pub line_set : Known → Writes → Line → Line
line_set k (R.Reset r) h = h
line_set k (R.Clock C.Initial) h = h
line_set k (R.Clock C.Transfer) h = record { clkcr = h.clkcr; gated = true; clock = k.clock.frequency; signalling = h.signalling }
line_set k (R.Clock C.Switch) h = record { clkcr = h.clkcr; gated = true; clock = k.clock.frequency; signalling = SDR25 }
line_set k R.Power h = h
line_set k R.Open h = h
line_set k (R.Delay v) h = h
line_set k (R.Retry n) h = h
line_set k (R.Settle v) h = h
line_set k (R.Close r why) h = h

-- after a row of the first reset, and of the guard's
unfoldable pub reset_on : Option Reset → Follow
reset_on (Some r) = F.Tells (R.Reset r)
reset_on None = F.Idles C.Initial

unfoldable pub close_on : Option Reset → Why → Follow
close_on (Some r) why = F.Tells (R.Close r why)
close_on None why = F.Over (Z.Dropping why)

module _ (j : Job) where
  abbrev initial : Clock
  initial = initial_of j.asked

  abbrev frequency : ℕ
  frequency = frequency_of j.asked

  abbrev pub limit_at : ℕ
  limit_at = j.host.settings.config.poll_limit

  abbrev pub bus_with : ℕ → Bus
  bus_with rca = record { source = j.host.settings.source; config = j.host.settings.config; rca = rca }

  abbrev pub phase_at : Gets → Phase
  phase_at gets = phase_of j.asked gets

  -- what a data phase of its own returns to, and the whole of it
  abbrev pub own_site : Context Closing (List ℕ)
  own_site = inside (accepting j.host (host_by j.asked j.host)) (dropping j.host) whole

  abbrev pub own : List ℕ → Plan Closing
  own sent = plug own_site (phase_plan (bus_with j.host.card.rca) (phase_by j.asked) sent)

  -- a refusal of an initialisation
  unfoldable pub refusal : Why → Plan Closing
  refusal why = plug (Sites.guarded j.host initial frequency) (refuse (cause_of why))

  -- so many attempts to power up a card of this version
  unfoldable pub powering : Bool → ℕ → Plan Closing
  powering v n = plug (Sites.powered j.host initial frequency) (Sites.power_ups j.host initial frequency v n)

  -- the words of a data phase, of those that it keeps and those that were handed out
  abbrev pub words_in : Gets → List ℕ → Lent → Lent
  words_in gets held g = words_by (phase_at gets) held g

  module _ (k : Known) where
    unfoldable pub rca_of : Gets → ℕ
    rca_of G.Asked = j.host.card.rca
    rca_of G.Scr = k.rca
    rca_of G.Check = k.rca
    rca_of G.Switch = k.rca

    unfoldable pub wait_rca : Waiting → ℕ
    wait_rca W.Blocks = j.host.card.rca
    wait_rca W.Selected = k.rca

    -- where a command returns to
    unfoldable pub sent_site : Sent → Context Closing (List ℕ)
    sent_site S.Cmd0 = Sites.cmd0 j.host initial frequency
    sent_site S.Cmd8 = Sites.cmd8 j.host initial frequency
    sent_site (S.Power55 n) = Sites.power55 j.host initial frequency k.version2 n
    sent_site (S.Power41 n) = Sites.power41 j.host initial frequency k.version2 n
    sent_site S.Cmd2 = Sites.cmd2 j.host initial frequency k.ocr
    sent_site S.Cmd3 = Sites.cmd3 j.host initial frequency k.ocr (list_of k.cid)
    sent_site S.Cmd9 = Sites.cmd9 j.host initial frequency k.ocr (list_of k.cid) k.rca
    sent_site S.Cmd7 = Sites.cmd7 j.host initial frequency (card_by k)
    sent_site S.Cmd16 = Sites.cmd16 j.host initial frequency (card_by k)
    sent_site S.Scr55 = Sites.scr55 j.host initial frequency (card_by k)
    sent_site S.Width55 = Sites.width55 j.host initial frequency (card_by k) k.scr
    sent_site S.Width6 = Sites.width6 j.host initial frequency (card_by k) k.scr

    unfoldable pub site_of : List ℕ → Site → Context Closing (List ℕ)
    site_of sent T.App = Sites.app j.host (own sent)
    site_of sent (T.Init s) = sent_site s

    unfoldable pub wait_site : List ℕ → Waiting → Context Closing Nothing
    wait_site sent W.Blocks = Sites.approached j.host (own sent)
    wait_site sent W.Selected = Sites.selected j.host initial frequency (card_by k)

    unfoldable pub gets_site : Gets → Context Closing (List ℕ)
    gets_site G.Asked = own_site
    gets_site G.Scr = Sites.scr_data j.host initial frequency (card_by k)
    gets_site G.Check = Sites.check_data j.host initial frequency (card_by k) k.scr
    gets_site G.Switch = Sites.switch_data j.host initial frequency (card_by k) k.scr

    -- a clock row, and where it leads
    unfoldable pub clock_on : Change → Row
    clock_on C.Initial = row_of CLKCR (clkcr_of initial false false)
    clock_on C.Transfer = row_of CLKCR (clkcr_of k.clock j.host.settings.wide false)
    clock_on C.Switch = row_of CLKCR (clkcr_of k.clock j.host.settings.wide false)

    unfoldable pub change_site : Change → Context Closing Nothing
    change_site C.Initial = Sites.clocked j.host initial frequency
    change_site C.Transfer = Sites.changing j.host initial frequency k.clock (Sites.clock_set j.host initial frequency (card_by k) k.scr)
    change_site C.Switch = Sites.changing j.host initial frequency k.clock (Sites.switch_clock j.host initial frequency (card_by k) k.scr)

    abbrev rowing : Row → Plan Nothing
    rowing r = row r.register r.value

    -- the idle wait before it, with so many polls
    unfoldable pub idling : Change → ℕ → Plan Closing
    idling c n = plug (and_then (λ _. rowing (clock_on c)) (change_site c)) (wait_idle n true)

    unfoldable pub writes_plan : Writes → Plan Closing
    writes_plan (R.Reset r) = plug (Sites.resetting j.host initial frequency) (rows_from (rows_left r))
    writes_plan (R.Clock c) = plug (change_site c) (rowing (clock_on c))
    writes_plan R.Power = plug (Sites.powering j.host initial frequency) (row POWER 3)
    writes_plan R.Open = plug (Sites.opened j.host initial frequency) (set_clken true)
    writes_plan (R.Delay v) = plug (Sites.powered_on j.host initial frequency) (row DELAY v)
    writes_plan (R.Retry n) = plug (Sites.retried j.host initial frequency k.version2 n) (retry_delay (source_of j.host.settings))
    writes_plan (R.Settle v) = plug (Sites.switch_delay j.host initial frequency (card_by k) k.scr) (row DELAY v)
    writes_plan (R.Close r why) = plug (Sites.refused j.host initial frequency why) (rows_from (rows_left r))

    -- its row, and what is ahead once it is written
    unfoldable pub row_at : Line → Writes → Row
    row_at h (R.Reset r) = reset_row r
    row_at h (R.Clock c) = clock_on c
    row_at h R.Power = row_of POWER 3
    row_at h R.Open = row_of CLKCR (clken_of h.clkcr true)
    row_at h (R.Delay v) = row_of DELAY v
    row_at h (R.Retry n) = row_of DELAY (rounded_up (source_of j.host.settings) 1000)
    row_at h (R.Settle v) = row_of DELAY v
    row_at h (R.Close r why) = reset_row r

    unfoldable pub told_plan : Writes → Plan Closing
    told_plan (R.Reset r) = plug (Sites.resetting j.host initial frequency) (rows_from (rest_left r))
    told_plan (R.Clock c) = plug (change_site c) (give tt)
    told_plan R.Power = plug (Sites.powering j.host initial frequency) (give tt)
    told_plan R.Open = plug (Sites.opened j.host initial frequency) (give tt)
    told_plan (R.Delay v) = plug (Sites.powered_on j.host initial frequency) (give tt)
    told_plan (R.Retry n) = powering k.version2 n
    told_plan (R.Settle v) = plug (Sites.switch_delay j.host initial frequency (card_by k) k.scr) (give tt)
    told_plan (R.Close r why) = plug (Sites.refused j.host initial frequency why) (rows_from (rest_left r))

    unfoldable pub end_plan : Lent → End → Plan Closing
    end_plan ws Z.Accepted = accepting j.host (host_by j.asked j.host) (all_of (phase_by j.asked) ws)
    end_plan ws Z.Found = finding j.host (with_scr (card_by k) k.scr.0)
    end_plan ws (Z.Keeping why) = keeping j.host (cause_of why)
    end_plan ws (Z.Dropping why) = dropping j.host (cause_of why)

    -- what follows a step
    unfoldable pub follow_plan : Lent → Follow → Plan Closing
    follow_plan ws (F.Sends s index argument response) = plug (sent_site s) (command limit_at index argument response)
    follow_plan ws (F.Waits w) = plug (wait_site ws.sent w) (wait_ready j.host.settings.source.0 j.host.settings.config (wait_rca w))
    follow_plan ws (F.Gets gets) = plug (gets_site gets) (phase_plan (bus_with (rca_of gets)) (phase_at gets) ws.sent)
    follow_plan ws (F.Idles c) = idling c limit_at
    follow_plan ws (F.Tells t) = writes_plan t
    follow_plan ws (F.Refuses why) = refusal why
    follow_plan ws (F.Over e) = end_plan ws e

    unfoldable pub at_plan : List ℕ → Lent → At → Plan Closing
    at_plan held g (A.Command s c) = plug (site_of g.sent s) (command_plan c)
    at_plan held g (A.Ready w r) = plug (wait_site g.sent w) (ready_plan (bus_with (wait_rca w)) r)
    at_plan held g (A.Data gets d) = plug (gets_site gets) (data_plan (bus_with (rca_of gets)) (phase_at gets) (words_in gets held g) d)
    at_plan held g (A.Idle c n) = idling c (suc n)
    at_plan held g (A.Tells t) = writes_plan t
    at_plan held g (A.Over e) = end_plan (words_in G.Asked held g) e

  abbrev pub then_next : Lent → Then → Line → Next Closing
  then_next ws t h = next (follow_plan t.known ws t.follow) h

  abbrev pub stand_next : List ℕ → Lent → Stand → Line → Next Closing
  stand_next held g s h = next (at_plan s.known held g s.at) h
