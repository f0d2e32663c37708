-- Words of the script. Of running any plan: that words past those taken change nothing, what a script's end leaves, and
-- how many words are taken at most.
use Prim.Native.Nat.{ℕ, zero, suc, ◌+◌, ◌*◌, ◌<◌, ◌≤◌}
use mathlib.Core.Path.{◌≡◌, refl, ap, ◌∙◌}
use mathlib.Core.Bool.{Bool, true, false, cond}
use mathlib.Core.List.{List, [], ◌∷◌, ◌++◌}
use native.Mathlib.Omega.{arith}
use native.Mathlib.Nat.{suc-add, suc-mul}
use native.Mathlib.Decide.{dec_lt}
use lib.ListN.{length, get_or, length-append, get_or-append, set}
use lib.Dec.{ltb}
use borrow.Author.Tests.{le-ltb, lt-ltb}
use Rattle.types.specs.declared.error.Error.{Error}
use Rattle.tape.specs.declared.progress.Halt.TheVariants.{Refused, ScriptEnded, TraceFull}
use Rattle.tape.specs.declared.progress.Line.{Line}
use Rattle.tape.specs.Pace.{Pace}
use Rattle.tape.specs.Pace.{Going, Stopped}
use Rattle.tape.specs.declared.rows.Row.{Row}
use Rattle.tape.specs.declared.script.Reading.{Reading}
use Rattle.tape.specs.Plan.{Cause, failed, ended, Plan, give, refuse, read, write, look, hold, handle, ◌then◌, fail, ensure}
use Rattle.tape.specs.Plan.{until}
use Rattle.tape.specs.Run.{State, After, noted, run, does_at, Gave}
use Rattle.tape.proofs.Laws.{by_cases, run_out}
use Rattle.tape.specs.Steps.{word, row, data_from, send_from}
use Rattle.tape.proofs.Room.{Written, Free, with_row, free}

-- How far a plan comes in a script, given endless room: whether a reading finds no word, and the rows before that.
pub record Reach : Type 0 where
  pub short : Bool
  pub rows : List Written

unfoldable pub reach : List ℕ → {A : Type 0} → Plan A → ℕ → Line → Reach
reach s (give a) u h = record { short = false; rows = [] }
reach s (refuse e) u h = record { short = false; rows = [] }
reach s (read r k z) u h = cond (ltb u (length s)) (reach s (k (get_or s u 0)) (u + 1) h) (record { short = true; rows = [] })
reach s (write r p) u h =
    let x = reach s p u (noted r h) in
    record { short = x.short; rows = record { row = r; used = u; line = h } ∷ x.rows }
reach s (look k) u h = reach s (k h) u h
reach s (hold h' p) u h = reach s p u h'

-- What a call does on a script with more words behind: the same, where no reading found none. Where one did, the rows before
-- it are the first of those that it writes then.
pub record Longer (A : Type 0) (c : Reach) (x y : Free A) : Type 0 where
  pub same : c.short ≡ false → y ≡ x
  pub rest : List Written
  pub first : y.rows ≡ c.rows ++ rest

pub more-words : (s t : List ℕ) {A : Type 0} (d : A) (p : Plan A) (u : ℕ) (h : Line)
    → Longer A (reach s p u h) (free s d p u h) (free (s ++ t) d p u h)
unfolding free reach
more-words s t d (give a) u h = record { same = λ _. refl; rest = []; first = refl }
more-words s t d (refuse e) u h = record { same = λ _. refl; rest = []; first = refl }
more-words s t {A} d (read r k z) u h = by (dec_lt u (length s)) (more-words s t d (k (get_or s u 0)) (u + 1) h)
  where
    on : Free A
    on = free (s ++ t) d (read r k z) u h

    by : Dec (u < length s)
        → Longer A (reach s (k (get_or s u 0)) (u + 1) h) (free s d (k (get_or s u 0)) (u + 1) h) (free (s ++ t) d (k (get_or s u 0)) (u + 1) h)
        → Longer A (reach s (read r k z) u h) (free s d (read r k z) u h) on
    by (yes some) ih =
        rw (lt-ltb u (length s) some, lt-ltb u (length (s ++ t)) (omega (arith, length-append s t)), get_or-append s t 0 u some) ih
    by (no none) ih = rw (le-ltb u (length s) (omega arith)) (record { same = λ e. cc; rest = on.rows; first = refl })
more-words s t d (write r p) u h =
    let ih = more-words s t d p u (noted r h) in
    let row : Written = record { row = r; used = u; line = h } in
    record {
      same = λ e. ap (with_row row) (ih.same e);
      rest = ih.rest;
      first = ap (λ (xs : List Written). row ∷ xs) ih.first;
    }
more-words s t d (look k) u h = more-words s t d (k h) u h
more-words s t d (hold h' p) u h = more-words s t d p u h'

-- rows that were all written after so many words
pub data Late : ℕ → List Written → Type 0 where
  no_row : {n : ℕ} → Late n []
  late-one : {n : ℕ} {x : Written} {xs : List Written} → x.used ≡ n → Late n xs → Late n (x ∷ xs)

late-at : {m n : ℕ} {xs : List Written} → m ≡ n → Late m xs → Late n xs
late-at e b = rw e at b

-- What a script's end leaves: the rows before the reading that found no word, and those that close the call. Every word of the
-- script was taken before these.
pub record Closed (A : Type 0) (n : ℕ) (c : Reach) (x : Free A) : Type 0 where
  pub closing : List Written
  pub rows : x.rows ≡ c.rows ++ closing
  pub late : Late n closing
  pub all : c.short ≡ true → x.used ≡ n

free-out : (s : List ℕ) {A : Type 0} (d : A) (p : Plan A) (u : ℕ) (h : Line) → length s ≤ u → ((free s d p u h).used ≡ u) × Late u (free s d p u h).rows
unfolding free
free-out s d (give a) u h e = (refl, no_row)
free-out s d (refuse x) u h e = (refl, no_row)
free-out s d (read r k z) u h e = rw (le-ltb u (length s) e) (free-out s d z u h e)
free-out s d (write r p) u h e = let ih = free-out s d p u (noted r h) e in (ih.0, late-one refl ih.1)
free-out s d (look k) u h e = free-out s d (k h) u h e
free-out s d (hold h' p) u h e = free-out s d p u h' e

pub at_its_end : (s : List ℕ) {A : Type 0} (d : A) (p : Plan A) (u : ℕ) (h : Line) → u ≤ length s → Closed A (length s) (reach s p u h) (free s d p u h)
unfolding free reach
at_its_end s d (give a) u h e = record { closing = []; rows = refl; late = no_row; all = λ c. cc }
at_its_end s d (refuse x) u h e = record { closing = []; rows = refl; late = no_row; all = λ c. cc }
at_its_end s {A} d (read r k z) u h e = by (dec_lt u (length s)) (at_its_end s d (k (get_or s u 0)) (u + 1) h) (free-out s d z u h)
  where
    by : Dec (u < length s)
        → (u + 1 ≤ length s → Closed A (length s) (reach s (k (get_or s u 0)) (u + 1) h) (free s d (k (get_or s u 0)) (u + 1) h))
        → (length s ≤ u → ((free s d z u h).used ≡ u) × Late u (free s d z u h).rows)
        → Closed A (length s) (reach s (read r k z) u h) (free s d (read r k z) u h)
    by (yes some) ih out = rw (lt-ltb u (length s) some) (ih (omega arith))
    by (no none) ih out =
        let end : u ≡ length s = omega arith in
        let closed = out (omega arith) in
        rw (le-ltb u (length s) (omega arith))
        (record { closing = (free s d z u h).rows; rows = refl; late = late-at end closed.1; all = λ c. closed.0 ∙ end })
at_its_end s d (write r p) u h e =
    let ih = at_its_end s d p u (noted r h) e in
    let row : Written = record { row = r; used = u; line = h } in
    record { closing = ih.closing; rows = ap (λ (xs : List Written). row ∷ xs) ih.rows; late = ih.late; all = ih.all }
at_its_end s d (look k) u h e = at_its_end s d (k h) u h e
at_its_end s d (hold h' p) u h e = at_its_end s d p u h' e

-- so a call that finds no room among those rows has taken every word of its script (`run-full` says which row it is)
pub late-row : (n : ℕ) (xs ys : List Written) (w : Written) (k : ℕ) → Late n ys → length xs ≤ k → k < length (xs ++ ys) → (get_or (xs ++ ys) k w).used ≡ n
late-row n [] [] w k no_row h more = absurd (omega arith)
late-row n [] (y ∷ ys) w zero (late-one e b) h more = e
late-row n [] (y ∷ ys) w (suc k) (late-one e b) h more = late-row n [] ys w k b (omega arith) (omega arith)
late-row n (x ∷ xs) ys w zero b h more = absurd (omega arith)
late-row n (x ∷ xs) ys w (suc k) b h more = late-row n xs ys w k b (omega arith) (omega arith)

-- no more words are taken than there are
run-within : (s : List ℕ) {A : Type 0} (d : A) (p : Plan A) (u n : ℕ) (h : Line) (l : List Row) → u ≤ length s
    → (run s d p u n h l).state.progress.used ≤ length s
unfolding run
run-within s d (give a) u n h l e = e
run-within s d (refuse x) u n h l e = e
run-within s {A} d (read r k z) u n h l e = by (dec_lt u (length s)) (run-within s d (k (get_or s u 0)) (u + 1) n h l) (run-within s d z u n h l)
  where
    by : Dec (u < length s) → (u + 1 ≤ length s → (run s d (k (get_or s u 0)) (u + 1) n h l).state.progress.used ≤ length s)
        → (u ≤ length s → (run s d z u n h l).state.progress.used ≤ length s)
        → (run s d (read r k z) u n h l).state.progress.used ≤ length s
    by (yes some) ih out = rw (lt-ltb u (length s) some) (ih (omega arith))
    by (no none) ih out = rw (le-ltb u (length s) (omega arith)) (out e)
run-within s {A} d (write r p) u n h l e =
    by_cases (λ (x : After A). x.state.progress.used ≤ length s) (ltb n (length l)) _ _ (run-within s d p u (n + 1) (noted r h) (set l n r) e) e
run-within s d (look k) u n h l e = run-within s d (k h) u n h l e
run-within s d (hold h' p) u n h l e = run-within s d p u n h' l e

pub within-script : {s : List ℕ} {A : Type 0} {d : A} {p : Plan A} {w : State} {v : A} {w' : State}
    → Gave s A d p w v w' → w.progress.used ≤ length s → w'.progress.used ≤ length s
unfolding does_at
within-script {s} {A} {d} {p} {w} {v} {w'} e h = rw (ap (λ (x : After A). x.state.progress.used) e.same) (by w.progress.pace)
  where
    by : (q : Pace) → (does_at s d q p w).state.progress.used ≤ length s
    by Going = run-within s d p w.progress.used w.progress.rows w.progress.line w.list h
    by (Stopped x) = h

-- p takes at most n words; and what refuses it is an error of the driver: that a script has ended is not for it to say.
unfoldable pub at_most : {A : Type 0} → ℕ → Plan A → Type 0
at_most n (give a) = Unit {0}
at_most n (refuse (failed e)) = Unit {0}
at_most n (refuse ended) = ⊥
at_most zero (read r k z) = ⊥
at_most (suc n) (read r k z) = (w : ℕ) → at_most n (k w)
at_most n (write r p) = at_most n p
at_most n (look k) = (h : Line) → at_most n (k h)
at_most n (hold h p) = at_most n p

pub record AtMost {A : Type 0} (n : ℕ) (p : Plan A) : Type 0 where
  pub words : at_most n p

more : {A : Type 0} (m n : ℕ) (p : Plan A) → m ≤ n → at_most m p → at_most n p
unfolding at_most
more m n (give a) h b = tt
more m n (refuse (failed e)) h b = tt
more m n (refuse ended) h b = b
more zero n (read r k z) h b = absurd b
more (suc m) zero (read r k z) h b = absurd (omega arith)
more (suc m) (suc n) (read r k z) h b = λ w. more m n (k w) (omega arith) (b w)
more m n (write r p) h b = more m n p h b
more m n (look k) h b = λ g. more m n (k g) h (b g)
more m n (hold g p) h b = more m n p h b

pub at-most : {m n : ℕ} {A : Type 0} {p : Plan A} → AtMost m p → m ≤ n → AtMost n p
at-most {m} {n} {A} {p} b h = record { words = more m n p h b.words }

module _ {A B : Type 0} (f : A → Plan B) (g : Cause → Plan B) (n : ℕ) (of-value : (a : A) → AtMost n (f a)) (of-error : (e : Error) → AtMost n (g (failed e))) where
  joined : (m : ℕ) (p : Plan A) → at_most m p → at_most (m + n) (handle f g p)
  unfolding at_most handle
  joined m (give a) b = more n (m + n) (f a) (omega arith) (of-value a).words
  joined m (refuse (failed e)) b = more n (m + n) (g (failed e)) (omega arith) (of-error e).words
  joined m (refuse ended) b = absurd b
  joined zero (read r k z) b = absurd b
  joined (suc m) (read r k z) b = rw suc-add (λ w. joined m (k w) (b w))
  joined m (write r p) b = joined m p b
  joined m (look k) b = λ h. joined m (k h) (b h)
  joined m (hold h p) b = joined m p b

pub at-most-handle : {k : ℕ} (m n : ℕ) {A B : Type 0} {p : Plan A} {f : A → Plan B} (g : Cause → Plan B)
    → AtMost m p → ((a : A) → AtMost n (f a)) → ((e : Error) → AtMost n (g (failed e))) → m + n ≤ k → AtMost k (handle f g p)
at-most-handle m n {A} {B} {p} {f} g b v e h = at-most (record { words = joined f g n v e m p b.words }) h

pub at-most-give : {n : ℕ} {A : Type 0} {a : A} → AtMost n (give a)
unfolding at_most
at-most-give = record { words = tt }

pub at-most-fail : {n : ℕ} {A : Type 0} {e : Error} → AtMost {A = A} n (fail e)
unfolding at_most
at-most-fail = record { words = tt }

pub at-most-word : {n : ℕ} (r : Reading) → AtMost (suc n) (word r)
unfolding at_most word
at-most-word r = record { words = λ w. tt }

pub at-most-row : {n : ℕ} (register value : ℕ) → AtMost n (row register value)
unfolding at_most row
at-most-row register value = record { words = tt }

pub at-most-look : {n : ℕ} {A : Type 0} {k : Line → Plan A} → ((h : Line) → AtMost n (k h)) → AtMost n (look k)
unfolding at_most
at-most-look b = record { words = λ h. (b h).words }

pub at_most_test : {n : ℕ} {A : Type 0} (b : Bool) {p q : Plan A} → AtMost n p → AtMost n q → AtMost n (cond b p q)
at_most_test {n} {A} b {p} {q} = by_cases (AtMost n) b p q

pub at-most-ensure : {n : ℕ} (b : Bool) (e : Error) → AtMost n (ensure b e)
unfolding ensure
at-most-ensure b e = at_most_test b at-most-give at-most-fail

pub at_most_then : {k : ℕ} (m n : ℕ) {A B : Type 0} {p : Plan A} {f : A → Plan B}
    → AtMost m p → ((a : A) → AtMost n (f a)) → m + n ≤ k → AtMost k (p then f)
at_most_then m n b v h = at-most-handle m n refuse b v (λ e. at-most-fail) h

-- a step that takes none, and then the next
pub at-most-after : {n : ℕ} {A B : Type 0} {p : Plan A} {f : A → Plan B} → AtMost 0 p → ((a : A) → AtMost n (f a)) → AtMost n (p then f)
at-most-after {n} b v = at_most_then 0 n b v (omega arith)

turns : (m limit : ℕ) {A : Type 0} (enough : A → Bool) {p : Plan A} → AtMost m p → AtMost (limit * m) (until limit enough p)
unfolding until
turns m zero enough b = at-most-fail
turns m (suc n) enough b =
    at_most_then m (n * m) b (λ v. at_most_test (enough v) at-most-give (turns m n enough b)) (rw suc-mul (omega arith))

pub at-most-until : (m limit : ℕ) {k : ℕ} {A : Type 0} (enough : A → Bool) {p : Plan A} → AtMost m p → limit * m ≤ k → AtMost k (until limit enough p)
at-most-until m limit enough b h = at-most (turns m limit enough b) h

pub at_most_data : (k n : ℕ) → AtMost n (data_from k n)
unfolding data_from
at_most_data k zero = at-most-give
at_most_data k (suc n) = at_most_then 1 n (at-most-word _) (λ w. at_most_then n 0 (at_most_data (k + 1) n) (λ ws. at-most-give) (omega arith)) (omega arith)

-- rows take none
pub at_most_send : (ws : List ℕ) (k n : ℕ) → AtMost 0 (send_from ws k n)
unfolding send_from
at_most_send ws k zero = at-most-give
at_most_send ws k (suc n) = at-most-after (at-most-row _ _) (λ _. at_most_send ws (k + 1) n)

abbrev pub is_ended : Pace → Bool
is_ended Going = false
is_ended (Stopped (Refused e)) = false
is_ended (Stopped ScriptEnded) = true
is_ended (Stopped TraceFull) = false

-- At most so many words more; and where the script ended, all of its words.
pub record Taken (n : ℕ) (s : List ℕ) (u : ℕ) (q : Pace) (u' : ℕ) : Type 0 where
  pub most : u' ≤ u + n
  pub all : is_ended q ≡ true → u ≤ length s → u' ≡ length s

abbrev TakenBy : {A : Type 0} → ℕ → List ℕ → ℕ → After A → Type 0
TakenBy n s u x = Taken n s u x.state.progress.pace x.state.progress.used

none-taken : (n : ℕ) (s : List ℕ) (u : ℕ) (q : Pace) → is_ended q ≡ false → Taken n s u q u
none-taken n s u q e = record { most = omega arith; all = λ e' h. absurd (apart e e') }
  where
    apart : is_ended q ≡ false → is_ended q ≡ true → ⊥
    apart e e' = let z : ◌≡◌ {A = ℕ} 0 1 = cc in omega arith

run-taken : {A : Type 0} (s : List ℕ) (n : ℕ) (d : A) (p : Plan A) (u m : ℕ) (h : Line) (l : List Row) → at_most n p → TakenBy n s u (run s d p u m h l)
unfolding at_most run
run-taken s n d (give a) u m h l b = none-taken n s u Going refl
run-taken s n d (refuse (failed e)) u m h l b = none-taken n s u (Stopped (Refused e)) refl
run-taken s n d (refuse ended) u m h l b = absurd b
run-taken s zero d (read r k z) u m h l b = absurd b
run-taken {A} s (suc n) d (read r k z) u m h l b = by (dec_lt u (length s)) (run-taken s n d (k (get_or s u 0)) (u + 1) m h l (b (get_or s u 0)))
  where
    by : Dec (u < length s) → TakenBy n s (u + 1) (run s d (k (get_or s u 0)) (u + 1) m h l) → TakenBy (suc n) s u (run s d (read r k z) u m h l)
    by (yes some) ih =
        rw (lt-ltb u (length s) some) (record { most = omega (arith, ih.most); all = λ e v. ih.all e (omega arith) })
    by (no none) ih =
        let out = run_out s d z u m h l (omega arith) in
        rw (le-ltb u (length s) (omega arith)) (record { most = omega (arith, out); all = λ e v. omega (arith, out) })
run-taken s n d (write r p) u m h l b =
    by_cases (TakenBy n s u) (ltb m (length l)) _ _ (run-taken s n d p u (m + 1) (noted r h) (set l m r) b) (none-taken n s u (Stopped TraceFull) refl)
run-taken s n d (look k) u m h l b = run-taken s n d (k h) u m h l (b h)
run-taken s n d (hold h' p) u m h l b = run-taken s n d p u m h' l b

pub taken : {s : List ℕ} {n : ℕ} {A : Type 0} {d : A} {p : Plan A} {w : State} {v : A} {w' : State}
    → w.progress.pace ≡ Going → AtMost n p → Gave s A d p w v w'
    → Taken n s w.progress.used w'.progress.pace w'.progress.used
unfolding does_at
taken {s} {n} {A} {d} {p} {w} {v} {w'} g b e =
    rw (← ap (λ (x : After A). x.state) (rw g at e.same))
    at (run-taken s n d p w.progress.used w.progress.rows w.progress.line w.list b.words)
