-- The rows, the idle waits and the ends of a call: what it waits for there, and what an answer does to it.
use Prim.Native.Nat.{ℕ, suc}
use mathlib.Core.Path.{◌≡◌, refl, ap, sym, ◌∙◌}
use mathlib.Core.Bool.{true}
use Rattle.tape.specs.declared.progress.Line.{Line}
use Rattle.tape.specs.declared.script.Reading.TheVariants as Reading
use Rattle.tape.specs.Plan.{Plan, handle, until}
use Rattle.tape.specs.Run.{noted}
use Rattle.tape.specs.Steps.{word, row, wait_idle, set_clken}
use Rattle.bus.specs.Ready.{retry_delay}
use Rattle.step.specs.declared.wants.Wants.TheVariants as Wa
use Rattle.step.specs.Context.{plug}
use Rattle.step.specs.Next.{Next, tells, next, heard, told, missed, want_of, waits, line_of, line_after, Lent}
use Rattle.step.specs.Rows.{rows_from}
use Rattle.stepping.specs.Closing.{Closing, keeping, dropping, finding, accepting}
use Rattle.stepping.specs.Ahead.{clock_on, change_site, idling, writes_plan, row_at, told_plan, end_plan, powering}
use Rattle.stepping.specs.declared.call.Change.{Change}
use Rattle.stepping.specs.declared.call.Change.TheVariants as C
use Rattle.stepping.specs.declared.call.End.{End}
use Rattle.stepping.specs.declared.call.End.TheVariants as Z
use Rattle.stepping.specs.declared.call.Job.{Job}
use Rattle.stepping.specs.declared.call.Known.{Known}
use Rattle.stepping.specs.declared.call.Writes.{Writes}
use Rattle.stepping.specs.declared.call.Writes.TheVariants as R

module _ (j : Job) (k : Known) (h : Line) where
  -- an idle wait reads the status
  pub idle_wants : (c : Change) (n : ℕ) → Wa.Read Reading.Status ≡ want_of (next (idling j k c (suc n)) h)
  unfolding idling clock_on change_site wait_idle until word row handle plug next want_of
  idle_wants C.Initial n = refl
  idle_wants C.Transfer n = refl
  idle_wants C.Switch n = refl

  pub idle-told : (c : Change) (n : ℕ) → next (idling j k c (suc n)) h ≡ told (next (idling j k c (suc n)) h)
  unfolding idling clock_on change_site wait_idle until word row handle plug next told
  idle-told C.Initial n = refl
  idle-told C.Transfer n = refl
  idle-told C.Switch n = refl

  pub idle-line : (c : Change) (n : ℕ) → line_after (next (idling j k c (suc n)) h) ≡ h
  unfolding idling clock_on change_site wait_idle until word row handle plug next line_after
  idle-line C.Initial n = refl
  idle-line C.Transfer n = refl
  idle-line C.Switch n = refl

  pub idle-waits : (c : Change) (n : ℕ) → waits (next (idling j k c (suc n)) h) ≡ true
  unfolding idling clock_on change_site wait_idle until word row handle plug next waits
  idle-waits C.Initial n = refl
  idle-waits C.Transfer n = refl
  idle-waits C.Switch n = refl

  pub idle-held : (c : Change) (n : ℕ) → line_of (next (idling j k c (suc n)) h) ≡ h
  unfolding idling clock_on change_site wait_idle until word row handle plug next line_of
  idle-held C.Initial n = refl
  idle-held C.Transfer n = refl
  idle-held C.Switch n = refl

  pub idle-moved : (c : Change) (n : ℕ) (l : Line) → l ≡ line_after (next (idling j k c (suc n)) h)
      → next (idling j k c (suc n)) l ≡ told (next (idling j k c (suc n)) h)
  idle-moved c n l e = ap (λ (l : Line). next (idling j k c (suc n)) l) (e ∙ idle-line c n) ∙ idle-told c n

  -- each of its rows is a row in a context
  record Rowed (t : Writes) : Type 0 where
    rest : Plan Closing
    same : next (writes_plan j k t) h ≡ tells h (row_at j k h t) rest
    after : next (told_plan j k t) (noted (row_at j k h t) h) ≡ next rest (noted (row_at j k h t) h)

  rowed : (t : Writes) → Rowed t
  unfolding writes_plan told_plan row_at clock_on change_site powering retry_delay rows_from set_clken row handle plug next
  rowed (R.Reset r) = record { rest = _; same = refl; after = refl }
  rowed (R.Clock C.Initial) = record { rest = _; same = refl; after = refl }
  rowed (R.Clock C.Transfer) = record { rest = _; same = refl; after = refl }
  rowed (R.Clock C.Switch) = record { rest = _; same = refl; after = refl }
  rowed R.Power = record { rest = _; same = refl; after = refl }
  rowed R.Open = record { rest = _; same = refl; after = refl }
  rowed (R.Delay v) = record { rest = _; same = refl; after = refl }
  rowed (R.Retry n) = record { rest = _; same = refl; after = refl }
  rowed (R.Settle v) = record { rest = _; same = refl; after = refl }
  rowed (R.Close r e) = record { rest = _; same = refl; after = refl }

  pub row_wants : (t : Writes) → Wa.Write (row_at j k h t) ≡ want_of (next (writes_plan j k t) h)
  unfolding want_of
  row_wants t = sym (ap want_of (rowed t).same)

  pub row-waits : (t : Writes) → waits (next (writes_plan j k t) h) ≡ true
  unfolding waits
  row-waits t = ap waits (rowed t).same

  pub row-missed : (t : Writes) → next (writes_plan j k t) h ≡ missed (next (writes_plan j k t) h)
  unfolding missed
  row-missed t = (rowed t).same ∙ sym (ap missed (rowed t).same)

  pub row-heard : (t : Writes) (w : ℕ) → next (writes_plan j k t) h ≡ heard (next (writes_plan j k t) h) w
  unfolding heard
  row-heard t w = (rowed t).same ∙ sym (ap (λ (x : Next Closing). heard x w) (rowed t).same)

  pub row_line : (t : Writes) → line_after (next (writes_plan j k t) h) ≡ noted (row_at j k h t) h
  unfolding line_after
  row_line t = ap line_after (rowed t).same

  pub row_told : (t : Writes) → next (told_plan j k t) (line_after (next (writes_plan j k t) h)) ≡ told (next (writes_plan j k t) h)
  unfolding told
  row_told t = ap (λ (l : Line). next (told_plan j k t) l) (row_line t) ∙ (rowed t).after ∙ sym (ap told (rowed t).same)

  pub row-held : (t : Writes) → line_of (next (writes_plan j k t) h) ≡ h
  unfolding line_of
  row-held t = ap line_of (rowed t).same

  pub row_moved : (t : Writes) (l : Line) → l ≡ line_after (next (writes_plan j k t) h) → next (told_plan j k t) l ≡ told (next (writes_plan j k t) h)
  row_moved t l e = ap (λ (l : Line). next (told_plan j k t) l) e ∙ row_told t

  -- its end
  module _ (ws : Lent) where
    pub end_wants : (e : End) → Wa.Nothing ≡ want_of (next (end_plan j k ws e) h)
    unfolding end_plan accepting finding keeping dropping next want_of
    end_wants Z.Accepted = refl
    end_wants Z.Found = refl
    end_wants (Z.Keeping e) = refl
    end_wants (Z.Dropping e) = refl

    pub end-missed : (e : End) → next (end_plan j k ws e) h ≡ missed (next (end_plan j k ws e) h)
    unfolding end_plan accepting finding keeping dropping next missed
    end-missed Z.Accepted = refl
    end-missed Z.Found = refl
    end-missed (Z.Keeping e) = refl
    end-missed (Z.Dropping e) = refl

    pub end-heard : (e : End) (w : ℕ) → next (end_plan j k ws e) h ≡ heard (next (end_plan j k ws e) h) w
    unfolding end_plan accepting finding keeping dropping next heard
    end-heard Z.Accepted w = refl
    end-heard Z.Found w = refl
    end-heard (Z.Keeping e) w = refl
    end-heard (Z.Dropping e) w = refl

    pub end-told : (e : End) → next (end_plan j k ws e) h ≡ told (next (end_plan j k ws e) h)
    unfolding end_plan accepting finding keeping dropping next told
    end-told Z.Accepted = refl
    end-told Z.Found = refl
    end-told (Z.Keeping e) = refl
    end-told (Z.Dropping e) = refl

    pub end_line : (e : End) → line_after (next (end_plan j k ws e) h) ≡ h
    unfolding end_plan accepting finding keeping dropping next line_after
    end_line Z.Accepted = refl
    end_line Z.Found = refl
    end_line (Z.Keeping e) = refl
    end_line (Z.Dropping e) = refl

    pub end-held : (e : End) → line_of (next (end_plan j k ws e) h) ≡ h
    unfolding end_plan accepting finding keeping dropping next line_of
    end-held Z.Accepted = refl
    end-held Z.Found = refl
    end-held (Z.Keeping e) = refl
    end-held (Z.Dropping e) = refl

    pub end_moved : (e : End) (l : Line) → l ≡ line_after (next (end_plan j k ws e) h) → next (end_plan j k ws e) l ≡ told (next (end_plan j k ws e) h)
    end_moved e l same = ap (λ (l : Line). next (end_plan j k ws e) l) (same ∙ end_line e) ∙ end-told e

    pub end-words : (ws' : Lent) (e : End) (w : ℕ) → ws' ≡ ws → next (end_plan j k ws' e) h ≡ heard (next (end_plan j k ws e) h) w
    end-words ws' e w same = ap (λ (v : Lent). next (end_plan j k v e) h) same ∙ end-heard e w
