-- What a plan does to a call under way, on a script. A step's contract says it by `Took`, or by `Went` where it gives
-- nothing.
use Rattle.std.specs.Prelude.{ℕ, ◌+◌, ◌-◌, ◌≤◌, ◌≡◌, Bool, true, cond, List, length, get_or, take, drop, set, ltb, eqb, Result, Ok, Err, IfOk}
use Rattle.std.specs.Borrow.{Bor}
use Rattle.tape.specs.declared.progress.Head.{Head}
use Rattle.tape.specs.declared.progress.Halt.{Halt}
use Rattle.tape.specs.declared.progress.Halt.TheVariants.{Refused, ScriptEnded, TraceFull}
use Rattle.tape.specs.declared.progress.Line.{Line}
use Rattle.tape.specs.Pace.{Pace, Going, Stopped, Progress}
use Rattle.tape.specs.declared.rows.Row.{Row}
use Rattle.tape.specs.Plan.{Nothing, Cause, failed, ended, Plan, give, refuse, read, write, look, hold}
use Rattle.tape.specs.Rows.{CLKCR}

-- a call under way: its rows, written and not, and its progress
pub record State : Type 0 where
  pub list : List Row
  pub progress : Progress

abbrev pub at : Progress → List Row → State
at p l = record { list = l; progress = p }

-- a state, and what was given on the way to it
pub record After (A : Type 0) : Type 0 where
  pub value : A
  pub state : State

abbrev pub after : {A : Type 0} → A → Pace → ℕ → ℕ → Line → List Row → After A
after a q u n h l = record { value = a; state = at (record { pace = q; used = u; rows = n; line = h }) l }

abbrev pub stopped : {A : Type 0} → A → Halt → State → After A
stopped d x w = after d (Stopped x) w.progress.used w.progress.rows w.progress.line w.list

-- what the host holds after a row: CLKCR reads back what was last written
unfoldable pub noted : Row → Line → Line
noted row line =
    record {
      clkcr = cond (eqb row.register CLKCR) row.value line.clkcr;
      gated = line.gated;
      clock = line.clock;
      signalling = line.signalling;
    }

-- how a refused call has stopped
abbrev pub halt_of : Cause → Halt
halt_of (failed e) = Refused e
halt_of ended = ScriptEnded

-- a value, and d where a plan has stopped
unfoldable pub kept_at : {A : Type 0} → A → A → Pace → A
kept_at d v Going = v
kept_at d v (Stopped x) = d

-- whether no more is to be tried: it has stopped, or this was enough
unfoldable pub over_at : Pace → Bool → Bool
over_at Going b = b
over_at (Stopped x) b = true

-- a call stops once
unfoldable pub stop_at : Pace → Halt → Pace
stop_at Going x = Stopped x
stop_at (Stopped y) x = Stopped y

module _ (s : List ℕ) where
  -- a plan from a call that is going, with u words used and n rows written; it gives d where it stops. Where no word is left it
  -- goes on as it does then; where there is no room it stops as it is
  unfoldable pub run : {A : Type 0} → A → Plan A → ℕ → ℕ → Line → List Row → After A
  run d (give a) u n h l = after a Going u n h l
  run d (refuse c) u n h l = after d (Stopped (halt_of c)) u n h l
  run d (read r k z) u n h l =
      cond (ltb u (length s)) (run d (k (get_or s u 0)) (u + 1) n h l) (run d z u n h l)
  run d (write r p) u n h l =
      cond (ltb n (length l)) (run d p u (n + 1) (noted r h) (set l n r)) (after d (Stopped TraceFull) u n h l)
  run d (look k) u n h l = run d (k h) u n h l
  run d (hold h' p) u n h l = run d p u n h' l

  abbrev pub run_from : {A : Type 0} → A → Plan A → State → After A
  run_from d p w = run d p w.progress.used w.progress.rows w.progress.line w.list

  -- a call that has stopped is passed on as it is
  unfoldable pub does_at : {A : Type 0} → A → Pace → Plan A → State → After A
  does_at d Going p w = run_from d p w
  does_at d (Stopped x) p w = stopped d x w

  abbrev pub does : {A : Type 0} → A → Plan A → State → After A
  does d p w = does_at d w.progress.pace p w

  -- how f and g go on from where a plan has come: f of what it gave, g of why it was refused
  unfoldable pub next_at : {A B : Type 0} → B → (A → Plan B) → (Cause → Plan B) → A → Pace → State → After B
  next_at d f g v Going w = run_from d (f v) w
  next_at d f g v (Stopped (Refused e)) w = run_from d (g (failed e)) w
  next_at d f g v (Stopped ScriptEnded) w = run_from d (g ended) w
  next_at d f g v (Stopped TraceFull) w = stopped d TraceFull w

  abbrev pub next : {A B : Type 0} → B → (A → Plan B) → (Cause → Plan B) → A → State → After B
  next d f g v w = next_at d f g v w.progress.pace w

-- r lies behind the first n words of the script s: it is what is left after those
pub record Behind (n : ℕ) (r s : List ℕ) : Type 0 where
  pub part : r ≡ drop n s

-- on the script s, p makes w' of w and gives v, and d where it stopped
pub record Gave (s : List ℕ) (A : Type 0) (d : A) (p : Plan A) (w : State) (v : A) (w' : State) : Type 0 where
  pub same : record { value = v; state = w' } ≡ does s d p w

-- the same, of a plan that gives nothing
abbrev pub Did : List ℕ → Plan Nothing → State → State → Type 0
Did s p w w' = Gave s Nothing tt p w tt w'

-- on the script s, from v at w, f or g goes on to v' at w': guards, gates, rescues
pub record Settled (s : List ℕ) (A B : Type 0) (d : B) (f : A → Plan B) (g : Cause → Plan B) (v : A) (w : State) (v' : B) (w' : State) : Type 0 where
  pub same : record { value = v'; state = w' } ≡ next s d f g v w

-- A STEP has the head of the tape lent, and answers with a value, or with why the call stopped.

-- where a call stands, at this pace
abbrev pub stand : Pace → Head → Progress
stand q h = record { pace = q; used = h.used; rows = h.rows; line = h.line }

abbrev pub pace_of : {A : Type 0} → Result A Halt → Pace
pace_of (Ok v) = Going
pace_of (Err x) = Stopped x

-- the value of an answer, and d where it is none
abbrev pub value_of : {A : Type 0} → A → Result A Halt → A
value_of d (Ok v) = v
value_of d (Err x) = d

-- a call at this head and list: on its way to a step, and as the step's answer leaves it
abbrev pub going_at : Head → List Row → State
going_at h l = at (stand Going h) l

abbrev pub left_at : {A : Type 0} → Result A Halt → Head → List Row → State
left_at r h l = at (stand (pace_of r) h) l

-- on the script s, p makes of h and l the answer r, h' and l'
pub record Took (s : List ℕ) (A : Type 0) (d : A) (p : Plan A) (h : Head) (l : List Row) (r : Result A Halt) (h' : Head) (l' : List Row) : Type 0 where
  pub gave : Gave s A d p (going_at h l) (value_of d r) (left_at r h' l')

-- the same, of a plan that gives nothing
abbrev pub Went : List ℕ → Plan Nothing → Head → List Row → Result Nothing Halt → Head → List Row → Type 0
Went s p h l r h' l' = Took s Nothing tt p h l r h' l'

-- an answer whose value is seen so
abbrev pub seen_as : {A B : Type 0} → (A → B) → Result A Halt → Result B Halt
seen_as f (Ok v) = Ok (f v)
seen_as f (Err x) = Err x

-- lent words, as the list that they are
abbrev pub words_in : Result (Bor (List ℕ)) Halt → Result (List ℕ) Halt
words_in r = seen_as (λ (lent : Bor (List ℕ)). lent.now) r

-- the words of an answer, by where they lie in a script: n of them from a place on, all there; an answer without words tells none
pub record Lies (s : List ℕ) (from n : ℕ) (r : Result (List ℕ) Halt) : Type 0 where
  pub there : IfOk r (λ words. words ≡ take n (drop from s))
  pub whole : IfOk r (λ words. n ≤ length s - from)
