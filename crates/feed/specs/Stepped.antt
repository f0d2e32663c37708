-- A call taken one answer at a time from a script, by anybody: each turn is what the contracts of `wants`, `fed`, `missed` and
-- `went` say of it, and it is left where it is over or where the list is full. Asking at the script's end, it is told so. Where a call
-- wants word k of what it sends, its row has that word of `sent` (`filled_in`).
use Rattle.std.specs.Prelude.{ℕ, ◌+◌, ◌<◌, ◌≤◌, ◌≡◌, List, [], ◌∷◌, length, get_or, set, Some}
use Rattle.types.specs.declared.error.Answer.{Answer}
use Rattle.types.specs.declared.error.Answer.TheVariants as Answered
use Rattle.types.specs.Words.{words_of}
use Rattle.tape.specs.declared.rows.Row.{Row}
use Rattle.tape.specs.declared.script.Reading.{Reading}
use Rattle.tape.specs.Plan.{Plan}
use Rattle.bus.specs.Transfer.{incoming, outgoing}
use Rattle.host.specs.declared.host.Called.{Called}
use Rattle.host.specs.declared.host.Sdmmc.{Sdmmc}
use Rattle.calls.specs.Serve as S
use Rattle.step.specs.declared.wants.Wants.TheVariants as W
use Rattle.step.specs.Next.{next, want_of, Lent, Handed}
use Rattle.stepping.specs.Closing.{Closing}
use Rattle.underway.specs.declared.call.Call.{Call}
use Rattle.underway.specs.Under.{under, answered, unanswered, written, closed_of}
use Rattle.underway.specs.Whole.{init_call, blocks_call, status_call}

-- the call, its words (those that it sends, and those handed out so far), the words taken, the rows written, and the row list
pub record Midway : Type 0 where
  pub call : Call
  pub out : Lent
  pub used : ℕ
  pub rows : ℕ
  pub list : List Row

abbrev pub midway : Call → Lent → ℕ → ℕ → List Row → Midway
midway m g u n l = record { call = m; out = g; used = u; rows = n; list = l }

module _ (s : List ℕ) where
  pub data Turn : Midway → Midway → Type 0 where
    hears : {m m' : Call} {g g' : Lent} {u n : ℕ} {l : List Row} (r : Reading)
        → W.Read r ≡ want_of (under g m).ahead → u < length s → Handed r (get_or s u 0) g g'
        → under g' m' ≡ answered (under g m) (get_or s u 0)
        → Turn (midway m g u n l) (midway m' g' (u + 1) n l)
    misses : {m m' : Call} {g : Lent} {u n : ℕ} {l : List Row} (r : Reading)
        → W.Read r ≡ want_of (under g m).ahead → length s ≤ u
        → under g m' ≡ unanswered (under g m)
        → Turn (midway m g u n l) (midway m' g u n l)
    writes : {m m' : Call} {g : Lent} {u n : ℕ} {l : List Row} (r : Row)
        → W.Write r ≡ want_of (under g m).ahead → n < length l
        → under g m' ≡ written (under g m)
        → Turn (midway m g u n l) (midway m' g u (n + 1) (set l n r))

  pub data Turns : Midway → Midway → Type 0 where
    still : {x : Midway} → Turns x x
    more : {x y z : Midway} → Turn x y → Turns y z → Turns x z

  -- what it has come to there
  pub data Left : Midway → Called → Type 0 where
    closed : {m : Call} {g : Lent} {u n : ℕ} {l : List Row} (answer : Answer) → (closed_of (under g m)).outcome ≡ Some answer
        → Left (midway m g u n l) (record { answer = answer; words = u; rows = n; host = (closed_of (under g m)).host })
    full : {m : Call} {g : Lent} {u n : ℕ} {l : List Row} (r : Row) → W.Write r ≡ want_of (under g m).ahead → length l ≤ n
        → Left (midway m g u n l) (record { answer = Answered.TraceFull; words = u; rows = n; host = (under g m).before })

-- the calls of a list
unfoldable pub plan_by : Sdmmc → S.Call → Plan Closing
plan_by host (S.initialise frequency s l) = init_call host frequency
plan_by host (S.read index bytes s l) = blocks_call host incoming index bytes
plan_by host (S.write index bytes s l) = blocks_call host (outgoing (words_of bytes)) index (length bytes)
plan_by host (S.status s l) = status_call host

unfoldable pub script_by : S.Call → List ℕ
script_by (S.initialise frequency s l) = s
script_by (S.read index bytes s l) = s
script_by (S.write index bytes s l) = s
script_by (S.status s l) = s

unfoldable pub list_by : S.Call → List Row
list_by (S.initialise frequency s l) = l
list_by (S.read index bytes s l) = l
list_by (S.write index bytes s l) = l
list_by (S.status s l) = l

-- a call of a list begun on a host, and left there
pub record Stepped (host : Sdmmc) (c : S.Call) (r : Called) (last : Midway) : Type 0 where
  pub first : Call
  pub out : Lent
  pub begun : under out first ≡ record { before = host; ahead = next (plan_by host c) host.line }
  pub turns : Turns (script_by c) (midway first out 0 0 (list_by c)) last
  pub left : Left (script_by c) last r

-- each on the host that the one before it left: what each came to, and the last host
pub data AllStepped : Sdmmc → List S.Call → List Called → Sdmmc → Type 0 where
  none : {host : Sdmmc} → AllStepped host [] [] host
  one : {host : Sdmmc} {c : S.Call} {r : Called} {last : Midway} {cs : List S.Call} {rs : List Called} {h : Sdmmc}
      → Stepped host c r last → AllStepped r.host cs rs h → AllStepped host (c ∷ cs) (r ∷ rs) h
