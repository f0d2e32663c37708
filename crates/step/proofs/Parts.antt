-- How a command goes on from each of its parts.
use Rattle.std.specs.Prelude.{Result, Ok, Err}
use Prim.Native.Nat.{ℕ, suc, ◌-◌, ◌%◌}
use mathlib.Core.Path.{◌≡◌, refl, ap, sym, ◌∙◌}
use mathlib.Core.Bool.{Bool, true, false}
use mathlib.Core.List.{List, [], ◌∷◌}
use native.Mathlib.Omega.{arith}
use Rattle.tape.specs.declared.progress.Line.{Line}
use lib.Dec.{eqb}
use Rattle.types.specs.Bits.{clear}
use Rattle.tape.specs.declared.script.Reading.TheVariants as Reading
use Rattle.tape.specs.Plan.{ended, refuse, handle, ◌then◌, fail, until, ensure}
use Rattle.tape.specs.Steps.{word, row, wait_idle, set_clken}
use Rattle.bus.specs.declared.response.Form.{Form}
use Rattle.bus.specs.declared.response.Response.{Response}
use Rattle.bus.specs.Command.{form_of, wait_completion, poll_completion, response_words, judge, issue, complete, command_inner, command}
use Rattle.step.specs.Next.{Next, next, heard, told, missed, want_of, line_after, waits}
use Rattle.step.specs.Context.{plug, heard_read, missed_read, missed_write, wants_read, waits_read, waits_write, told_read, line_read, heard_write, told_write, line_write}
use Rattle.step.specs.Command.{end_next, shut, within, polling, polled_at, tells_plan, asks_plan, part_plan, begun_plan, reading_of}
use Rattle.step.specs.declared.command.Part.{Part}
use Rattle.step.specs.declared.command.Part.TheVariants as P
use Rattle.step.specs.declared.command.Asks.{Asks}
use Rattle.step.specs.declared.command.Asks.TheVariants as A
use Rattle.step.specs.declared.command.Tells.{Tells}
use Rattle.step.specs.declared.command.Tells.TheVariants as T
use Rattle.tape.specs.Run.{noted}
use Rattle.step.specs.declared.wants.Wants.TheVariants as W
use Rattle.types.specs.declared.error.Error.TheVariants as E
use Rattle.step.specs.declared.why.Why.{Why}
use Rattle.step.specs.declared.command.Words.{Words}

-- a number that is not 0 is one more than one less
pub one_less : (n : ℕ) → (n ≡ 0 → ⊥) → suc (n - 1) ≡ n
one_less n more = omega arith

-- behind its gate, a command's end is the row that closes it, and the end
pub closing : (x : Result Words Why) (h : Line) → next (set_clken false then λ _. end_next x) h ≡ next (plug (shut true) (end_next x)) h
unfolding plug shut end_next handle
closing (Ok w) h = refl
closing (Err e) h = refl

module _ (limit index argument : ℕ) (response : Response) (gate : Bool) (h : Line) where
  abbrev asking : Asks → Next (List ℕ)
  asking a = next (asks_plan limit index argument response gate a) h

  abbrev telling : Tells → Line → Next (List ℕ)
  telling t h = next (tells_plan limit index argument response gate t) h

  abbrev form : Form
  form = form_of response

  -- its idle wait
  pub idle-ends : (n w : ℕ) → clear 0x800 w ≡ true → telling T.Icr h ≡ heard (asking (A.Idle n)) w
  unfolding tells_plan asks_plan within wait_idle until word handle plug
  idle-ends n w e = sym (heard_read (shut gate) h Reading.Status _ _ w ∙ rw e)

  pub idle-goes : (n w : ℕ) → clear 0x800 w ≡ false → next (within limit index argument response gate n) h ≡ heard (asking (A.Idle n)) w
  unfolding asks_plan within wait_idle until word handle plug
  idle-goes n w e = sym (heard_read (shut gate) h Reading.Status _ _ w ∙ rw e)

  -- its polls
  pub poll_goes : (n w : ℕ) → next (polled_at limit index argument response gate w n) h ≡ heard (asking (A.Poll n)) w
  unfolding asks_plan polling polled_at wait_completion poll_completion until word handle plug
  poll_goes n w = sym (heard_read (shut gate) h Reading.Status _ _ w)

  -- its echo
  pub echo-good : (w : ℕ) → eqb (w % 64) index ≡ true → asking A.First ≡ heard (asking A.Echo) w
  unfolding asks_plan word ensure handle plug
  echo-good w e = sym (heard_read (shut gate) h Reading.RespCmd _ _ w ∙ rw e)

  pub echo-bad : (w : ℕ) → eqb (w % 64) index ≡ false → next (plug (shut gate) (fail E.ResponseMismatch)) h ≡ heard (asking A.Echo) w
  unfolding asks_plan word ensure handle plug
  echo-bad w e = sym (heard_read (shut gate) h Reading.RespCmd _ _ w ∙ rw e)

  -- the four words
  pub first : (w : ℕ) → asking (A.Second w) ≡ heard (asking A.First) w
  unfolding asks_plan response_words word handle plug
  first w = sym (heard_read (shut gate) h (Reading.Response 0) _ _ w)

  pub second : (a w : ℕ) → asking (A.Third a w) ≡ heard (asking (A.Second a)) w
  unfolding asks_plan word handle plug
  second a w = sym (heard_read (shut gate) h (Reading.Response 1) _ _ w)

  pub third : (a b w : ℕ) → asking (A.Fourth a b w) ≡ heard (asking (A.Third a b)) w
  unfolding asks_plan word handle plug
  third a b w = sym (heard_read (shut gate) h (Reading.Response 2) _ _ w)

  pub fourth : (a b c w : ℕ) → next (plug (shut gate) (judge form (a ∷ b ∷ c ∷ w ∷ []))) h ≡ heard (asking (A.Fourth a b c)) w
  unfolding asks_plan word handle plug
  fourth a b c w = sym (heard_read (shut gate) h (Reading.Response 3) _ _ w)

  -- its rows
  pub opened : next (within limit index argument response gate limit) (line_after (telling T.Open h)) ≡ told (telling T.Open h)
  unfolding tells_plan set_clken row handle next line_after told
  opened = refl

  pub icr_goes : telling T.Argument (line_after (telling T.Icr h)) ≡ told (telling T.Icr h)
  unfolding tells_plan issue row handle plug
  icr_goes = rw (line_write (shut gate) h _ _) (sym (told_write (shut gate) h _ _))

  pub argument_goes : telling T.Order (line_after (telling T.Argument h)) ≡ told (telling T.Argument h)
  unfolding tells_plan row handle plug
  argument_goes = rw (line_write (shut gate) h _ _) (sym (told_write (shut gate) h _ _))

  pub order_goes : next (polling limit index argument response gate limit) (line_after (telling T.Order h)) ≡ told (telling T.Order h)
  unfolding tells_plan complete polling row handle plug
  order_goes = rw (line_write (shut gate) h _ _) (sym (told_write (shut gate) h _ _))

  pub closed : (x : Result Words Why) → next (end_next x) (line_after (telling (T.Close x) h)) ≡ told (telling (T.Close x) h)
  unfolding tells_plan set_clken row handle next line_after told
  closed x = refl

  -- a row that is asked for a word, and a reading whose row is said to be written, stay
  pub unasked : (t : Tells) (w : ℕ) → telling t h ≡ heard (telling t h) w
  unfolding tells_plan issue set_clken row handle plug next heard
  unasked T.Open w = refl
  unasked T.Icr w = sym (heard_write (shut gate) h _ _ w)
  unasked T.Argument w = sym (heard_write (shut gate) h _ _ w)
  unasked T.Order w = sym (heard_write (shut gate) h _ _ w)
  unasked (T.Close x) w = refl

  -- where no word will come
  pub unanswered : (a : Asks) → next (plug (shut gate) (refuse ended)) h ≡ missed (asking a)
  unfolding asks_plan within polling wait_idle wait_completion poll_completion until response_words word handle plug
  unanswered (A.Idle n) = sym (missed_read (shut gate) h _ _ _)
  unanswered (A.Poll n) = sym (missed_read (shut gate) h _ _ _)
  unanswered A.Echo = sym (missed_read (shut gate) h _ _ _)
  unanswered A.First = sym (missed_read (shut gate) h _ _ _)
  unanswered (A.Second a) = sym (missed_read (shut gate) h _ _ _)
  unanswered (A.Third a b) = sym (missed_read (shut gate) h _ _ _)
  unanswered (A.Fourth a b c) = sym (missed_read (shut gate) h _ _ _)

  pub unmissed : (t : Tells) → telling t h ≡ missed (telling t h)
  unfolding tells_plan issue set_clken row handle plug next missed
  unmissed T.Open = refl
  unmissed T.Icr = sym (missed_write (shut gate) h _ _)
  unmissed T.Argument = sym (missed_write (shut gate) h _ _)
  unmissed T.Order = sym (missed_write (shut gate) h _ _)
  unmissed (T.Close x) = refl

  abbrev Unwritten : Asks → Type 0
  Unwritten a = next (asks_plan limit index argument response gate a) (line_after (asking a)) ≡ told (asking a)

  pub unwritten : (a : Asks) → Unwritten a
  unfolding asks_plan within polling wait_idle wait_completion poll_completion until response_words word handle plug
  unwritten (A.Idle n) = rw (line_read (shut gate) h _ _ _) (sym (told_read (shut gate) h _ _ _))
  unwritten (A.Poll n) = rw (line_read (shut gate) h _ _ _) (sym (told_read (shut gate) h _ _ _))
  unwritten A.Echo = rw (line_read (shut gate) h _ _ _) (sym (told_read (shut gate) h _ _ _))
  unwritten A.First = rw (line_read (shut gate) h _ _ _) (sym (told_read (shut gate) h _ _ _))
  unwritten (A.Second a) = rw (line_read (shut gate) h _ _ _) (sym (told_read (shut gate) h _ _ _))
  unwritten (A.Third a b) = rw (line_read (shut gate) h _ _ _) (sym (told_read (shut gate) h _ _ _))
  unwritten (A.Fourth a b c) = rw (line_read (shut gate) h _ _ _) (sym (told_read (shut gate) h _ _ _))

  pub reads : (a : Asks) → W.Read (reading_of a) ≡ want_of (asking a)
  unfolding asks_plan reading_of within polling wait_idle wait_completion poll_completion until response_words word handle plug
  reads (A.Idle n) = sym (wants_read (shut gate) h _ _ _)
  reads (A.Poll n) = sym (wants_read (shut gate) h _ _ _)
  reads A.Echo = sym (wants_read (shut gate) h _ _ _)
  reads A.First = sym (wants_read (shut gate) h _ _ _)
  reads (A.Second a) = sym (wants_read (shut gate) h _ _ _)
  reads (A.Third a b) = sym (wants_read (shut gate) h _ _ _)
  reads (A.Fourth a b c) = sym (wants_read (shut gate) h _ _ _)

  -- the line once its row is written
  pub asks-line : (a : Asks) → line_after (asking a) ≡ h
  unfolding asks_plan within polling wait_idle wait_completion poll_completion until response_words word handle plug
  asks-line (A.Idle n) = line_read (shut gate) h _ _ _
  asks-line (A.Poll n) = line_read (shut gate) h _ _ _
  asks-line A.Echo = line_read (shut gate) h _ _ _
  asks-line A.First = line_read (shut gate) h _ _ _
  asks-line (A.Second a) = line_read (shut gate) h _ _ _
  asks-line (A.Third a b) = line_read (shut gate) h _ _ _
  asks-line (A.Fourth a b c) = line_read (shut gate) h _ _ _

  -- it always waits for something
  pub asks-waits : (a : Asks) → waits (asking a) ≡ true
  unfolding asks_plan within polling wait_idle wait_completion poll_completion until response_words word handle plug
  asks-waits (A.Idle n) = waits_read (shut gate) h _ _ _
  asks-waits (A.Poll n) = waits_read (shut gate) h _ _ _
  asks-waits A.Echo = waits_read (shut gate) h _ _ _
  asks-waits A.First = waits_read (shut gate) h _ _ _
  asks-waits (A.Second a) = waits_read (shut gate) h _ _ _
  asks-waits (A.Third a b) = waits_read (shut gate) h _ _ _
  asks-waits (A.Fourth a b c) = waits_read (shut gate) h _ _ _

  pub tells-waits : (t : Tells) → waits (telling t h) ≡ true
  unfolding tells_plan issue set_clken row handle plug next waits
  tells-waits T.Open = refl
  tells-waits T.Icr = waits_write (shut gate) h _ _
  tells-waits T.Argument = waits_write (shut gate) h _ _
  tells-waits T.Order = waits_write (shut gate) h _ _
  tells-waits (T.Close x) = refl

  pub part-waits : (p : Part) → waits (next (part_plan limit index argument response gate p) h) ≡ true
  unfolding part_plan
  part-waits (P.Tells t) = tells-waits t
  part-waits (P.Asks a) = asks-waits a

  -- a row changes nothing of the clock's gate
  tells-gated : (t : Tells) → (line_after (telling t h)).gated ≡ h.gated
  unfolding tells_plan issue set_clken row handle plug next line_after noted
  tells-gated T.Open = refl
  tells-gated T.Icr = ap (λ (l : Line). l.gated) (line_write (shut gate) h _ _)
  tells-gated T.Argument = ap (λ (l : Line). l.gated) (line_write (shut gate) h _ _)
  tells-gated T.Order = ap (λ (l : Line). l.gated) (line_write (shut gate) h _ _)
  tells-gated (T.Close x) = refl

  pub part-gated : (p : Part) → (line_after (next (part_plan limit index argument response gate p) h)).gated ≡ h.gated
  unfolding part_plan
  part-gated (P.Tells t) = tells-gated t
  part-gated (P.Asks a) = ap (λ (l : Line). l.gated) (asks-line a)

  -- a command's own plan
  pub begins : gate ≡ h.gated → next (begun_plan limit index argument response gate) h ≡ next (command limit index argument response) h
  unfolding begun_plan within command command_inner plug shut next
  begins e = by gate e
    where
      by : (g : Bool) → g ≡ h.gated → next (begun_plan limit index argument response g) h ≡ next (command limit index argument response) h
      by true e = rw (← e)
      by false e = rw (← e)

pub begins-inner : (limit index argument : ℕ) (response : Response) → begun_plan limit index argument response false ≡ command_inner limit index argument response
unfolding begun_plan within command_inner plug shut
begins-inner limit index argument response = refl
