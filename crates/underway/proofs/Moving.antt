-- A call at each of its places: what it waits for, and what an answer to the part that stands there does to the call.
use Prim.Native.Nat.{ℕ}
use mathlib.Core.Path.{◌≡◌, refl, ap, sym, ◌∙◌}
use mathlib.Core.Bool.{true}
use mathlib.Core.List.{List}
use Rattle.tape.specs.declared.progress.Line.{Line}
use Rattle.tape.specs.declared.rows.Row.{Row}
use Rattle.tape.specs.declared.script.Reading.{Reading}
use Rattle.tape.specs.Plan.{Nothing, handle, until}
use lib.ListN.{get_or}
use Rattle.tape.specs.Rows.{FIFO}
use Rattle.tape.specs.Run.{noted}
use Rattle.tape.specs.Steps.{word, wait_idle, data_from}
use Rattle.bus.specs.Transfer.{data_complete, poll_transfer, settle}
use Rattle.step.specs.declared.command.Command.{Command}
use Rattle.step.specs.declared.why.Step.{Step}
use Rattle.step.specs.declared.ready.Bus.{Bus}
use Rattle.step.specs.declared.ready.Ready.{Ready}
use Rattle.step.specs.declared.ready.Ready.TheVariants as R
use Rattle.step.specs.declared.transfer.Data.{Data}
use Rattle.step.specs.declared.transfer.Data.TheVariants as D
use Rattle.step.specs.declared.phase.Phase.{Phase}
use Rattle.step.specs.declared.transfer.Reads.{Reads}
use Rattle.step.specs.declared.transfer.Reads.TheVariants as Re
use Rattle.step.specs.declared.wants.Wants.{Wants}
use Rattle.step.specs.declared.wants.Wants.TheVariants as Wa
use Rattle.step.specs.Command.{command_plan, command_next}
use Rattle.step.specs.Context.{plug, plug_next}
use Rattle.step.specs.Next.{Next, next, waits, want_of, heard, told, missed, line_of, line_after, Lent, filled_in, HandedBy}
use Rattle.step.specs.Ready.{asked, ready_plan, ready_next}
use Rattle.step.specs.Transfer.{idling, polling, start_site, stop_site, ending, words_by, reads_plan, data_plan, data_next, HandedAt}
use Rattle.step.proofs.Inside.{inside_wants, inside-heard, inside-missed, inside-told, inside-line, command-waits, command-goes, command_gate, filled_want}
use Rattle.step.proofs.Phases.{data_waits, writes-gated, sends-line}
use Rattle.step.proofs.Readying.{ready-waits, ready-goes, delay-gated}
use Rattle.stepping.specs.Ahead.{bus_with, phase_of, words_in, rca_of, wait_rca, site_of, wait_site, gets_site, at_plan}
use Rattle.stepping.specs.Closing.{Closing}
use Rattle.stepping.specs.declared.call.Asked.{Asked}
use Rattle.stepping.specs.declared.call.At.{At}
use Rattle.stepping.specs.declared.call.At.TheVariants as A
use Rattle.stepping.specs.declared.call.End.{End}
use Rattle.stepping.specs.declared.call.Gets.{Gets}
use Rattle.stepping.specs.declared.call.Gets.TheVariants as G
use Rattle.stepping.specs.declared.call.Job.{Job}
use Rattle.stepping.specs.declared.call.Known.{Known}
use Rattle.stepping.specs.declared.call.Site.{Site}
use Rattle.stepping.specs.declared.call.Waiting.{Waiting}
use Rattle.underway.specs.Under.{Under, under, written}
use Rattle.underway.specs.declared.call.Call.{Call}
use Rattle.underway.proofs.Lines as Lines
use Rattle.underway.proofs.Rowing.{idle-held, row-held, end-held, end_wants}
use Rattle.step.specs.declared.command.Words.{Words}

-- a row changes nothing of the clock's gate
module _ (bus : Bus) (h : Line) where
  ready_gate : (r : Ready) → (line_after (next (ready_plan bus r) h)).gated ≡ h.gated
  unfolding ready_plan
  ready_gate (R.Asks n c) = command_gate (asked bus n) c h
  ready_gate (R.Delay n) = delay-gated bus h n

  module _ (phase : Phase) (ws : Lent) where
    reads-line : (r : Reads) → line_after (next (reads_plan bus phase ws r) h) ≡ h
    unfolding reads_plan idling polling wait_idle until data_complete poll_transfer settle data_from word handle plug next line_after
    reads-line (Re.Idle n) = refl
    reads-line (Re.First n) = refl
    reads-line (Re.FirstDma n v) = refl
    reads-line (Re.Again n) = refl
    reads-line (Re.AgainDma n v) = refl
    reads-line (Re.Count n) = refl
    reads-line (Re.Word m) = refl

    data_gate : (d : Data) → (line_after (next (data_plan bus phase ws d) h)).gated ≡ h.gated
    unfolding data_plan
    data_gate (D.Asks r) = ap (λ (l : Line). l.gated) (reads-line r)
    data_gate (D.Tells t) = writes-gated bus phase ws h t
    data_gate (D.Sends m) = ap (λ (l : Line). l.gated) (sends-line bus phase ws h m)
    data_gate (D.Start c) = command_gate (start_site bus phase ws) c h
    data_gate (D.Stop c) = command_gate (stop_site bus phase ws) c h
    data_gate (D.Ready r) =
        ap (λ (l : Line). l.gated) (inside-line (ending bus phase ws) (ready_plan bus r) h (ready-waits bus h r)) ∙ ready_gate r

-- where it returns to goes by what is to be sent
pub site_sent : (j : Job) (k : Known) (s : Site) (x : Next (List ℕ)) {sent sent' : List ℕ} → sent' ≡ sent → plug_next (site_of j k sent' s) x ≡ plug_next (site_of j k sent s) x
site_sent j k s x e = ap (λ (l : List ℕ). plug_next (site_of j k l s) x) e

pub wait_sent : (j : Job) (k : Known) (t : Waiting) (x : Next Nothing) {sent sent' : List ℕ} → sent' ≡ sent → plug_next (wait_site j k sent' t) x ≡ plug_next (wait_site j k sent t) x
wait_sent j k t x e = ap (λ (l : List ℕ). plug_next (wait_site j k l t) x) e

module _ (j : Job) (k : Known) (h : Line) (held : List ℕ) (g : Lent) where
  -- a command
  module _ (s : Site) (c : Command) where
    abbrev command : Next Closing
    command = next (at_plan j k held g (A.Command s c)) h

    pub command_wants : (v : Wants) → v ≡ want_of (next (command_plan c) h) → filled_in g.sent v ≡ want_of command
    unfolding at_plan
    command_wants v e = ap (filled_in g.sent) e ∙ filled_want g.sent _ ∙ inside_wants (site_of j k g.sent s) (command_plan c) h (command-waits c h)

    pub command-heard : (x : Step Command Words) (w : ℕ) → command_next x h ≡ heard (next (command_plan c) h) w
        → plug_next (site_of j k g.sent s) (command_next x h) ≡ heard command w
    unfolding at_plan
    command-heard x w e = ap (plug_next (site_of j k g.sent s)) e ∙ inside-heard (site_of j k g.sent s) (command_plan c) h (command-waits c h) w

    pub command-missed : (x : Step Command Words) → command_next x h ≡ missed (next (command_plan c) h)
        → plug_next (site_of j k g.sent s) (command_next x h) ≡ missed command
    unfolding at_plan
    command-missed x e = ap (plug_next (site_of j k g.sent s)) e ∙ inside-missed (site_of j k g.sent s) (command_plan c) h (command-waits c h)

    pub command-moved : (x : Step Command Words) (l : Line) → l ≡ line_after command
        → command_next x (line_after (next (command_plan c) h)) ≡ told (next (command_plan c) h)
        → plug_next (site_of j k g.sent s) (command_next x l) ≡ told command
    unfolding at_plan
    command-moved x l e goes = ap (λ (l : Line). plug_next (site_of j k g.sent s) (command_next x l)) e ∙ command-goes (site_of j k g.sent s) c x h goes

  -- a ready wait
  module _ (t : Waiting) (r : Ready) where
    abbrev bus : Bus
    bus = bus_with j (wait_rca j k t)

    abbrev ready : Next Closing
    ready = next (at_plan j k held g (A.Ready t r)) h

    pub ready_wants : (v : Wants) → v ≡ want_of (next (ready_plan bus r) h) → filled_in g.sent v ≡ want_of ready
    unfolding at_plan
    ready_wants v e = ap (filled_in g.sent) e ∙ filled_want g.sent _ ∙ inside_wants (wait_site j k g.sent t) (ready_plan bus r) h (ready-waits bus h r)

    pub ready-heard : (x : Step Ready (Unit {0})) (w : ℕ) → ready_next bus x h ≡ heard (next (ready_plan bus r) h) w
        → plug_next (wait_site j k g.sent t) (ready_next bus x h) ≡ heard ready w
    unfolding at_plan
    ready-heard x w e = ap (plug_next (wait_site j k g.sent t)) e ∙ inside-heard (wait_site j k g.sent t) (ready_plan bus r) h (ready-waits bus h r) w

    pub ready-missed : (x : Step Ready (Unit {0})) → ready_next bus x h ≡ missed (next (ready_plan bus r) h)
        → plug_next (wait_site j k g.sent t) (ready_next bus x h) ≡ missed ready
    unfolding at_plan
    ready-missed x e = ap (plug_next (wait_site j k g.sent t)) e ∙ inside-missed (wait_site j k g.sent t) (ready_plan bus r) h (ready-waits bus h r)

    pub ready_moved : (x : Step Ready (Unit {0})) (l : Line) → l ≡ line_after ready
        → ((h : Line) → h.gated ≡ l.gated → ready_next bus x (line_after (next (ready_plan bus r) h)) ≡ told (next (ready_plan bus r) h))
        → plug_next (wait_site j k g.sent t) (ready_next bus x l) ≡ told ready
    unfolding at_plan
    ready_moved x l e goes =
        ap (λ (l : Line). plug_next (wait_site j k g.sent t) (ready_next bus x l)) e
        ∙ ready-goes bus h (wait_site j k g.sent t) r x (goes h (sym (ap (λ (l : Line). l.gated) (e ∙ inside-line (wait_site j k g.sent t) (ready_plan bus r) h (ready-waits bus h r)) ∙ ready_gate bus h r)))

  -- a data phase
  module _ (gets : Gets) (d : Data) where
    abbrev line : Bus
    line = bus_with j (rca_of j k gets)

    abbrev phase : Phase
    phase = phase_of j.asked gets

    abbrev words : Lent
    words = words_in j gets held g

    abbrev part : Next (List ℕ)
    part = next (data_plan line phase words d) h

    abbrev data' : Next Closing
    data' = next (at_plan j k held g (A.Data gets d)) h

    abbrev waiting : waits part ≡ true
    waiting = data_waits line phase words h d

    pub data_wants : (v : Wants) → ((ws : Lent) → filled_in ws.sent v ≡ want_of (next (data_plan line phase ws d) h)) → filled_in g.sent v ≡ want_of data'
    unfolding at_plan
    data_wants v e = e words ∙ inside_wants (gets_site j k gets) (data_plan line phase words d) h waiting

    -- its data words alone are handed out
    pub data_hands : (q : Asked) (w : ℕ) (g' : Lent) → j.asked ≡ q → HandedBy (want_of data') w g g' → HandedAt (phase_of q gets) d w g g'
    unfolding at_plan
    data_hands q w g' same e =
        rw same at
        (Lines.data_hands line phase words h d w g g'
        (Lines.inside_hands (gets_site j k gets) (data_plan line phase words d) h w g g' waiting e))

    pub data_heard : (x : Step Data (Unit {0})) (held' : List ℕ) (g' : Lent) (w : ℕ)
        → ((ws ws' : Lent) → HandedAt phase d w ws ws' → data_next line phase ws' x h ≡ heard (next (data_plan line phase ws d) h) w)
        → HandedAt phase d w words (words_in j gets held' g')
        → plug_next (gets_site j k gets) (data_next line phase (words_in j gets held' g') x h) ≡ heard data' w
    unfolding at_plan
    data_heard x held' g' w goes more =
        ap (plug_next (gets_site j k gets)) (goes words (words_in j gets held' g') more)
        ∙ inside-heard (gets_site j k gets) (data_plan line phase words d) h waiting w

    pub data_missed : (x : Step Data (Unit {0})) → ((ws : Lent) → data_next line phase ws x h ≡ missed (next (data_plan line phase ws d) h))
        → plug_next (gets_site j k gets) (data_next line phase words x h) ≡ missed data'
    unfolding at_plan
    data_missed x goes = ap (plug_next (gets_site j k gets)) (goes words) ∙ inside-missed (gets_site j k gets) (data_plan line phase words d) h waiting

    pub data_moved : (x : Step Data (Unit {0})) (l : Line) → l ≡ line_after data'
        → ((ws : Lent) (h : Line) → h.gated ≡ l.gated → data_next line phase ws x (line_after (next (data_plan line phase ws d) h)) ≡ told (next (data_plan line phase ws d) h))
        → plug_next (gets_site j k gets) (data_next line phase words x l) ≡ told data'
    unfolding at_plan
    data_moved x l e goes =
        let same : l ≡ line_after part = e ∙ inside-line (gets_site j k gets) (data_plan line phase words d) h waiting in
        ap (λ (l : Line). plug_next (gets_site j k gets) (data_next line phase words x l)) same
        ∙ ap (plug_next (gets_site j k gets)) (goes words h (sym (ap (λ (l : Line). l.gated) same ∙ data_gate line h phase words d)))
        ∙ inside-told (gets_site j k gets) (data_plan line phase words d) h waiting

-- where a call stands it holds its line
pub line-held : (j : Job) (k : Known) (h : Line) (held : List ℕ) (g : Lent) (at : At) → line_of (next (at_plan j k held g at) h) ≡ h
unfolding at_plan
line-held j k h held g (A.Command s c) = Lines.inside-held (site_of j k g.sent s) h (command_plan c) (command-waits c h) ∙ Lines.command-held c h
line-held j k h held g (A.Ready t r) =
    Lines.inside-held (wait_site j k g.sent t) h (ready_plan (bus_with j (wait_rca j k t)) r) (ready-waits (bus_with j (wait_rca j k t)) h r)
    ∙ Lines.ready_held (bus_with j (wait_rca j k t)) h r
line-held j k h held g (A.Data gets d) =
    Lines.inside-held (gets_site j k gets) h (data_plan (bus_with j (rca_of j k gets)) (phase_of j.asked gets) (words_in j gets held g) d)
    (data_waits (bus_with j (rca_of j k gets)) (phase_of j.asked gets) (words_in j gets held g) h d)
    ∙ Lines.data_held (bus_with j (rca_of j k gets)) (phase_of j.asked gets) (words_in j gets held g) h d
line-held j k h held g (A.Idle c n) = idle-held j k h c n
line-held j k h held g (A.Tells t) = row-held j k h t
line-held j k h held g (A.Over e) = end-held j k h (words_in j G.Asked held g) e

-- over, it hands out nothing
pub over_hands : (j : Job) (k : Known) (h : Line) (held : List ℕ) (g g' : Lent) (q : Asked) (e : End) (w : ℕ)
    → HandedBy (want_of (next (at_plan j k held g (A.Over e)) h)) w g g' → words_by (phase_of q G.Asked) held g' ≡ words_by (phase_of q G.Asked) held g
unfolding at_plan HandedBy
over_hands j k h held g g' q e w none =
    ap (λ (g : Lent). words_by (phase_of q G.Asked) held g) (rw (← end_wants j k h (words_in j G.Asked held g) e) at none)

-- a call after its row
module _ (c : Call) (g : Lent) where
  abbrev told' : Next Closing → Under
  told' x = record { before = c.job.host; ahead = x }

  pub told_read : (r : Reading) → Wa.Read r ≡ want_of (under g c).ahead → under g c ≡ written (under g c)
  told_read r e = ap told' (Lines.unasked-read (under g c).ahead r e)

  pub told_over : Wa.Nothing ≡ want_of (under g c).ahead → under g c ≡ written (under g c)
  told_over e = ap told' (Lines.unasked-over (under g c).ahead e)

  pub told-row : (r : Row) → Wa.Write r ≡ want_of (under g c).ahead → noted r c.line ≡ line_after (under g c).ahead
  told-row r e =
      ap (noted r) (sym (line-held c.job c.known c.line c.held g c.at)) ∙ Lines.row-noted (under g c).ahead r e

  -- a word that is sent changes nothing of what it holds
  pub told-sent : (k : ℕ) → filled_in g.sent (Wa.Send k) ≡ want_of (under g c).ahead → c.line ≡ line_after (under g c).ahead
  unfolding filled_in noted
  told-sent k e = told-row (record { register = FIFO; value = get_or g.sent k 0 }) e
