-- The record expected, which goes call by call, is the record due in the order's words: whatever calls a host was asked.
use Prim.Native.Nat.{ℕ}
use mathlib.Core.Bool.{Bool, true, false, cond}
use mathlib.Core.List.{List, [], ◌∷◌}
use mathlib.Core.Option.{Option, none, some}
use mathlib.Core.Path.{◌≡◌, refl, ap, sym, ◌∙◌}
use native.Mathlib.Omega.{arith}
use Rattle.types.specs.declared.card.Card.{Card}
use Rattle.types.specs.declared.error.Answer.{Answer}
use Rattle.types.specs.declared.error.Answer.TheVariants as Answered
use Rattle.types.specs.declared.error.Error.TheVariants as E
use Rattle.types.specs.Words.{sd_status_of}
use Rattle.tape.specs.declared.rows.Row.{Row}
use Rattle.init.specs.declared.settings.Settings.{Settings}
use Rattle.host.specs.declared.host.Held.{Held}
use Rattle.host.specs.declared.host.Sdmmc.{Sdmmc}
use Rattle.host.specs.Calls.{held_of, made, status_came, status_from, untouched, with_status}
use Rattle.calls.specs.Serve.{Call, initialise, read, write, status, comes, serve, Told, told_of, left_out, history, holds, holds_none, allowed, after_initialise, after_data, after_call, expected}
use Rattle.calls.specs.Order.{accepted, refused, initialises, reads_status, loses, last_record, since, last_status, lost, due_of, due, Possible}
use Rattle.calls.proofs.AnyList.{Clockable, made-clockable, leaves, after-a-call, record_held}

-- a call more in front of a history
module _ (begun : Bool) (found : Card) (taken : List ℕ) (earlier : List Told) where
  abbrev telling : Call → Answer → Told
  telling c a = record { call = c; answer = a; begun = begun; found = found; taken = taken }

  -- one that is neither an accepted initialisation nor an accepted status read
  other : (c : Call) (a : Answer) (lose : Bool) → initialises c a ≡ false → reads_status c a ≡ false → loses c a begun ≡ lose
      → cond lose holds_none (due earlier) ≡ due (telling c a ∷ earlier)
  unfolding last_record since last_status lost due_of
  other c a lose i r e = rw i (by (last_record earlier) lose e)
    where
      by : (o : Option Card) (b : Bool) → loses c a begun ≡ b → cond b holds_none (due_of o (since earlier)) ≡ due_of o (telling c a ∷ since earlier)
      by none true e = refl
      by none false e = refl
      by (some card) true e = rw e
      by (some card) false e = rw (e, r)

  -- an accepted status read, of a record that is held
  statused : (s : List ℕ) (l : List Row) (o : Option Card) (ts : List Told) → (due_of o ts).answer ≡ Answered.Accepted
      → record { answer = (due_of o ts).answer; card = with_status (due_of o ts).card (sd_status_of taken) } ≡ due_of o (telling (status s l) Answered.Accepted ∷ ts)
  unfolding due_of lost loses refused last_status reads_status accepted
  statused s l none ts held = let z : ◌≡◌ {A = ℕ} 0 1 = cc in absurd (omega arith)
  statused s l (some card) ts held = by (lost ts) held
    where
      by : (b : Bool) → (cond b holds_none (holds (with_status card (last_status ts)))).answer ≡ Answered.Accepted
          → record {
            answer = (cond b holds_none (holds (with_status card (last_status ts)))).answer;
            card = with_status (cond b holds_none (holds (with_status card (last_status ts)))).card (sd_status_of taken);
          } ≡ cond b holds_none (holds (with_status card (sd_status_of taken)))
      by true h = let z : ◌≡◌ {A = ℕ} 0 1 = cc in absurd (omega arith)
      by false h = refl

  step : (c : Call) (a : Answer) → (reads_status c a ≡ true → (due earlier).answer ≡ Answered.Accepted)
      → after_call c (telling c a) (due earlier) ≡ due (telling c a ∷ earlier)
  unfolding after_call after_initialise after_data initialises reads_status loses accepted refused last_record since lost last_status due_of
  step (initialise frequency s l) Answered.Accepted h = refl
  step (initialise frequency s l) (Answered.Refused e) h = other (initialise frequency s l) (Answered.Refused e) (allowed frequency) refl refl refl
  step (initialise frequency s l) Answered.ScriptEnded h = other (initialise frequency s l) Answered.ScriptEnded (allowed frequency) refl refl refl
  step (initialise frequency s l) Answered.TraceFull h = other (initialise frequency s l) Answered.TraceFull false refl refl refl
  step (initialise frequency s l) Answered.BadBook h = other (initialise frequency s l) Answered.BadBook false refl refl refl
  step (read index bytes s l) Answered.Accepted h = other (read index bytes s l) Answered.Accepted false refl refl refl
  step (read index bytes s l) (Answered.Refused e) h = other (read index bytes s l) (Answered.Refused e) begun refl refl refl
  step (read index bytes s l) Answered.ScriptEnded h = other (read index bytes s l) Answered.ScriptEnded begun refl refl refl
  step (read index bytes s l) Answered.TraceFull h = other (read index bytes s l) Answered.TraceFull false refl refl refl
  step (read index bytes s l) Answered.BadBook h = other (read index bytes s l) Answered.BadBook false refl refl refl
  step (write index bytes s l) Answered.Accepted h = other (write index bytes s l) Answered.Accepted false refl refl refl
  step (write index bytes s l) (Answered.Refused e) h = other (write index bytes s l) (Answered.Refused e) begun refl refl refl
  step (write index bytes s l) Answered.ScriptEnded h = other (write index bytes s l) Answered.ScriptEnded begun refl refl refl
  step (write index bytes s l) Answered.TraceFull h = other (write index bytes s l) Answered.TraceFull false refl refl refl
  step (write index bytes s l) Answered.BadBook h = other (write index bytes s l) Answered.BadBook false refl refl refl
  step (status s l) Answered.Accepted h = statused s l (last_record earlier) (since earlier) (h refl)
  step (status s l) (Answered.Refused e) h = other (status s l) (Answered.Refused e) begun refl refl refl
  step (status s l) Answered.ScriptEnded h = other (status s l) Answered.ScriptEnded begun refl refl refl
  step (status s l) Answered.TraceFull h = other (status s l) Answered.TraceFull false refl refl refl
  step (status s l) Answered.BadBook h = other (status s l) Answered.BadBook false refl refl refl

-- of every possible history
pub same : (ts : List Told) → Possible ts → expected ts ≡ due ts
unfolding expected Possible last_record since due_of
same [] p = refl
same (t ∷ earlier) p =
    ap (after_call t.call t) (same earlier p.1) ∙ step t.begun t.found t.taken earlier t.call t.answer p.0

-- and every history of a host is one: a status call of a host that holds no record is refused.
held-there : (host : Sdmmc) (c : Call) → reads_status c (comes host c).answer ≡ true → (held_of host).answer ≡ Answered.Accepted
unfolding reads_status comes status_came accepted
held-there host (initialise frequency s l) r = let z : ◌≡◌ {A = ℕ} 0 1 = cc in absurd (omega arith)
held-there host (read index bytes s l) r = let z : ◌≡◌ {A = ℕ} 0 1 = cc in absurd (omega arith)
held-there host (write index bytes s l) r = let z : ◌≡◌ {A = ℕ} 0 1 = cc in absurd (omega arith)
held-there host (status s l) r = by host.known r
  where
    by : (b : Bool) → accepted (cond b (status_from host s l) (untouched host E.NoCard l)).answer ≡ true
        → (cond b (holds host.card) holds_none).answer ≡ Answered.Accepted
    by true r = refl
    by false r = let z : ◌≡◌ {A = ℕ} 0 1 = cc in absurd (omega arith)

possible-on : (past : List Told) (host : Sdmmc) (c : Call) → held_of host ≡ expected past → Possible past
    → (b : Bool) → Possible (cond b past (told_of host c ∷ past))
unfolding Possible
possible-on past host c e p true = p
possible-on past host c e p false =
    (λ r. ap (λ (h : Held). h.answer) (sym (e ∙ same past p)) ∙ held-there host c r, p)

possible-from : (past : List Told) (host : Sdmmc) (cs : List Call) → Clockable host.settings → held_of host ≡ expected past → Possible past
    → Possible (history past host cs)
unfolding history
possible-from past host [] k e p = p
possible-from past host (c ∷ cs) k e p =
    possible-from (cond (left_out (comes host c).answer) past (told_of host c ∷ past)) (comes host c).host cs (rw (leaves host c).settings k)
    (after-a-call past host c k e) (possible-on past host c e p (left_out (comes host c).answer))

pub possible : (set : Settings) → (made set).answer ≡ Answered.Accepted → (cs : List Call) → Possible (history [] (made set).host cs)
unfolding history serve Possible
possible set ok cs = possible-from [] (made set).host cs (made-clockable set ok) (record_held set ok []) tt

-- DEMAND 3, the record, in the order's words: after any list of calls on a host that was made.
pub record_due : (set : Settings) → (made set).answer ≡ Answered.Accepted → (cs : List Call)
    → held_of (serve (made set).host cs).host ≡ due (history [] (made set).host cs)
record_due set ok cs = record_held set ok cs ∙ same (history [] (made set).host cs) (possible set ok cs)
