-- What the host holds where a call waits is the call's line; and no reading of a command is a data word.
use Prim.Native.Nat.{ℕ}
use mathlib.Core.Path.{◌≡◌, refl, ap, ◌∙◌}
use mathlib.Core.Bool.{Bool, true}
use Rattle.tape.specs.declared.progress.Line.{Line}
use Rattle.tape.specs.declared.rows.Row.{Row}
use Rattle.tape.specs.declared.script.Reading.{Reading}
use Rattle.tape.specs.Plan.{Plan, read, write, handle, until}
use Rattle.tape.specs.Run.{noted}
use Rattle.tape.specs.Steps.{word, row, wait_idle, set_clken, data_from, send_from}
use Rattle.bus.specs.declared.response.Response.{Response}
use Rattle.bus.specs.Command.{issue, poll_completion, wait_completion, response_words}
use Rattle.bus.specs.Ready.{retry_delay}
use Rattle.bus.specs.Transfer.{order_data, data_complete, poll_transfer, settle}
use Rattle.step.specs.declared.command.Asks.{Asks}
use Rattle.step.specs.declared.command.Asks.TheVariants as A
use Rattle.step.specs.declared.command.Command.{Command}
use Rattle.step.specs.declared.command.Part.{Part}
use Rattle.step.specs.declared.command.Part.TheVariants as P
use Rattle.step.specs.declared.command.Tells.{Tells}
use Rattle.step.specs.declared.command.Tells.TheVariants as T
use Rattle.step.specs.declared.ready.Bus.{Bus}
use Rattle.step.specs.declared.ready.Ready.{Ready}
use Rattle.step.specs.declared.ready.Ready.TheVariants as R
use Rattle.step.specs.declared.transfer.Data.{Data}
use Rattle.step.specs.declared.transfer.Data.TheVariants as D
use Rattle.step.specs.declared.phase.Phase.{Phase}
use Rattle.step.specs.declared.transfer.Reads.{Reads}
use Rattle.step.specs.declared.transfer.Reads.TheVariants as Re
use Rattle.step.specs.declared.transfer.Writes.{Writes}
use Rattle.step.specs.declared.transfer.Writes.TheVariants as W
use Rattle.step.specs.declared.wants.Wants.TheVariants as Wa
use Rattle.step.specs.Command.{shut, within, polling, tells_plan, asks_plan, part_plan, reading_of, command_plan}
use Rattle.step.specs.Context.{Context, plug, plug_next, plug_read, plug_write, next_plug, wants_write}
use Rattle.step.specs.Next.{Next, asks, tells, over, refused, next, waits, want_of, line_of, line_after, told, Handed, HandedBy, Lent}
use Rattle.step.specs.Ready.{asked, ready_plan}
use Rattle.step.specs.Rows.{rows_from}
use Rattle.step.specs.Transfer as Phases
use Rattle.step.specs.Transfer.{start_site, stop_site, ending, unclocked, reads_plan, writes_plan, data_plan, HandedAt}
use Rattle.step.proofs.Inside.{inside_wants, command-waits}
use Rattle.step.proofs.Parts as parts
use Rattle.step.proofs.Phases.{reads_want, writes_want, sends_want}
use Rattle.step.proofs.Readying.{ready-waits}

plug-held : {A B : Type 0} (k : Context B A) (x : Next A) → waits x ≡ true → line_of (plug_next k x) ≡ line_of x
unfolding line_of plug_next waits
plug-held k (asks h r f z) e = refl
plug-held k (tells h r p) e = refl
plug-held k (over h a) e = cc
plug-held k (refused h c) e = cc

module _ {A B : Type 0} (k : Context B A) (h : Line) where
  held-read : (r : Reading) (f : ℕ → Plan A) (z : Plan A) → line_of (next (plug k (read r f z)) h) ≡ h
  unfolding line_of next
  held-read r f z = rw (plug_read k r f z)

  held-write : (r : Row) (p : Plan A) → line_of (next (plug k (write r p)) h) ≡ h
  unfolding line_of next
  held-write r p = rw (plug_write k r p)

  pub inside-held : (p : Plan A) → waits (next p h) ≡ true → line_of (next (plug k p) h) ≡ line_of (next p h)
  inside-held p e = ap line_of (next_plug k p h) ∙ plug-held k (next p h) e

-- a command
module _ (limit index argument : ℕ) (response : Response) (gate : Bool) (h : Line) where
  asks-held : (a : Asks) → line_of (next (asks_plan limit index argument response gate a) h) ≡ h
  unfolding asks_plan within polling wait_idle wait_completion poll_completion until response_words word handle plug
  asks-held (A.Idle n) = held-read (shut gate) h _ _ _
  asks-held (A.Poll n) = held-read (shut gate) h _ _ _
  asks-held A.Echo = held-read (shut gate) h _ _ _
  asks-held A.First = held-read (shut gate) h _ _ _
  asks-held (A.Second a) = held-read (shut gate) h _ _ _
  asks-held (A.Third a b) = held-read (shut gate) h _ _ _
  asks-held (A.Fourth a b c) = held-read (shut gate) h _ _ _

  tells-held : (t : Tells) → line_of (next (tells_plan limit index argument response gate t) h) ≡ h
  unfolding tells_plan issue set_clken row handle plug next line_of
  tells-held T.Open = refl
  tells-held T.Icr = held-write (shut gate) h _ _
  tells-held T.Argument = held-write (shut gate) h _ _
  tells-held T.Order = held-write (shut gate) h _ _
  tells-held (T.Close x) = refl

  part_held : (p : Part) → line_of (next (part_plan limit index argument response gate p) h) ≡ h
  unfolding part_plan
  part_held (P.Tells t) = tells-held t
  part_held (P.Asks a) = asks-held a

  -- none of its readings is a data word
  asks_hands : (a : Asks) (w : ℕ) (g g' : Lent) → Handed (reading_of a) w g g' → g' ≡ g
  unfolding reading_of Handed
  asks_hands (A.Idle n) w g g' e = e
  asks_hands (A.Poll n) w g g' e = e
  asks_hands A.Echo w g g' e = e
  asks_hands A.First w g g' e = e
  asks_hands (A.Second a) w g g' e = e
  asks_hands (A.Third a b) w g g' e = e
  asks_hands (A.Fourth a b c) w g g' e = e

  tells_want : (t : Tells) (w : ℕ) (g g' : Lent) → HandedBy (want_of (next (tells_plan limit index argument response gate t) h)) w g g' → g' ≡ g
  unfolding tells_plan issue set_clken row handle plug next want_of HandedBy
  tells_want T.Open w g g' e = e
  tells_want T.Icr w g g' e = rw (wants_write (shut gate) h _ _) at e
  tells_want T.Argument w g g' e = rw (wants_write (shut gate) h _ _) at e
  tells_want T.Order w g g' e = rw (wants_write (shut gate) h _ _) at e
  tells_want (T.Close x) w g g' e = e

  part_hands : (p : Part) (w : ℕ) (g g' : Lent) → HandedBy (want_of (next (part_plan limit index argument response gate p) h)) w g g' → g' ≡ g
  unfolding part_plan HandedBy
  part_hands (P.Tells t) w g g' e = tells_want t w g g' e
  part_hands (P.Asks a) w g g' e = asks_hands a w g g' (rw (← parts.reads limit index argument response gate h a) at e)

pub command-held : (c : Command) (h : Line) → line_of (next (command_plan c) h) ≡ h
command-held c h = part_held c.limit c.index c.argument c.response c.gate h c.part

pub command_hands : (c : Command) (h : Line) (w : ℕ) (g g' : Lent) → HandedBy (want_of (next (command_plan c) h)) w g g' → g' ≡ g
command_hands c h w g g' e = part_hands c.limit c.index c.argument c.response c.gate h c.part w g g' e

-- what is handed out at a step in its context is what is handed out at the step
pub inside_hands : {A B : Type 0} (k : Context B A) (p : Plan A) (h : Line) (w : ℕ) (g g' : Lent) → waits (next p h) ≡ true
    → HandedBy (want_of (next (plug k p) h)) w g g' → HandedBy (want_of (next p h)) w g g'
inside_hands k p h w g g' waiting e = rw (← inside_wants k p h waiting) at e

-- a ready wait
module _ (bus : Bus) (h : Line) where
  pub ready_held : (r : Ready) → line_of (next (ready_plan bus r) h) ≡ h
  unfolding ready_plan retry_delay row handle plug next line_of
  ready_held (R.Asks n c) = inside-held (asked bus n) h (command_plan c) (command-waits c h) ∙ command-held c h
  ready_held (R.Delay n) = refl

  ready_hands : (r : Ready) (w : ℕ) (g g' : Lent) → HandedBy (want_of (next (ready_plan bus r) h)) w g g' → g' ≡ g
  unfolding ready_plan retry_delay row handle plug next want_of HandedBy
  ready_hands (R.Asks n c) w g g' e = command_hands c h w g g' (inside_hands (asked bus n) (command_plan c) h w g g' (command-waits c h) e)
  ready_hands (R.Delay n) w g g' e = e

-- a data phase
module _ (bus : Bus) (phase : Phase) (ws : Lent) (h : Line) where
  reads_held : (r : Reads) → line_of (next (reads_plan bus phase ws r) h) ≡ h
  unfolding reads_plan Phases.idling Phases.polling wait_idle until data_complete poll_transfer settle data_from word handle plug next line_of
  reads_held (Re.Idle n) = refl
  reads_held (Re.First n) = refl
  reads_held (Re.FirstDma n v) = refl
  reads_held (Re.Again n) = refl
  reads_held (Re.AgainDma n v) = refl
  reads_held (Re.Count n) = refl
  reads_held (Re.Word m) = refl

  writes-held : (t : Writes) → line_of (next (writes_plan bus phase ws t) h) ≡ h
  unfolding writes_plan unclocked ending order_data rows_from set_clken row handle plug next line_of
  writes-held (W.Reset r e) = refl
  writes-held (W.Arm a) = refl
  writes-held W.Control = refl
  writes-held W.Open = refl
  writes-held (W.Stop s) = refl
  writes-held W.Gate = refl

  sends-held : (m : ℕ) → line_of (next (data_plan bus phase ws (D.Sends m)) h) ≡ h
  unfolding data_plan send_from row handle plug next line_of
  sends-held m = refl

  pub data_held : (d : Data) → line_of (next (data_plan bus phase ws d) h) ≡ h
  unfolding data_plan
  data_held (D.Asks r) = reads_held r
  data_held (D.Tells t) = writes-held t
  data_held (D.Sends m) = sends-held m
  data_held (D.Start c) = inside-held (start_site bus phase ws) h (command_plan c) (command-waits c h) ∙ command-held c h
  data_held (D.Stop c) = inside-held (stop_site bus phase ws) h (command_plan c) (command-waits c h) ∙ command-held c h
  data_held (D.Ready r) = inside-held (ending bus phase ws) h (ready_plan bus r) (ready-waits bus h r) ∙ ready_held bus h r

  -- its data words alone are handed out
  pub data_hands : (d : Data) (w : ℕ) (g g' : Lent) → HandedBy (want_of (next (data_plan bus phase ws d) h)) w g g' → HandedAt phase d w g g'
  unfolding data_plan HandedAt HandedBy
  data_hands (D.Asks r) w g g' e = rw (← reads_want bus phase ws h r) at e
  data_hands (D.Tells t) w g g' e = rw (← writes_want bus phase ws h t) at e
  data_hands (D.Sends m) w g g' e = rw (← sends_want bus phase ws h m) at e
  data_hands (D.Start c) w g g' e = command_hands c h w g g' (inside_hands (start_site bus phase ws) (command_plan c) h w g g' (command-waits c h) e)
  data_hands (D.Stop c) w g g' e = command_hands c h w g g' (inside_hands (stop_site bus phase ws) (command_plan c) h w g g' (command-waits c h) e)
  data_hands (D.Ready r) w g g' e = ready_hands bus h r w g g' (inside_hands (ending bus phase ws) (ready_plan bus r) h w g g' (ready-waits bus h r) e)

-- what is ahead stays where it has no row to write, and notes its row where it has one
pub unasked-read : {A : Type 0} (x : Next A) (r : Reading) → Wa.Read r ≡ want_of x → x ≡ told x
unfolding want_of told
unasked-read (asks h q f z) r e = refl
unasked-read (tells h q p) r e = cc
unasked-read (over h a) r e = refl
unasked-read (refused h c) r e = refl

pub unasked-over : {A : Type 0} (x : Next A) → Wa.Nothing ≡ want_of x → x ≡ told x
unfolding want_of told
unasked-over (asks h q f z) e = refl
unasked-over (tells h q p) e = cc
unasked-over (over h a) e = refl
unasked-over (refused h c) e = refl

pub row-noted : {A : Type 0} (x : Next A) (r : Row) → Wa.Write r ≡ want_of x → noted r (line_of x) ≡ line_after x
unfolding want_of line_of line_after
row-noted (asks h q f z) r e = cc
row-noted (tells h q p) r e = let same : r ≡ q = cc in rw same refl
row-noted (over h a) r e = cc
row-noted (refused h c) r e = cc
