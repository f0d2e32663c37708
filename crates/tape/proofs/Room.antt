-- Room for rows. Of running any plan: what becomes of the row list, and that it stops for want of room exactly where, given
-- endless room, it would write more rows than there is room for.
use Prim.Native.Nat.{ℕ, zero, suc, ◌+◌, ◌-◌, ◌<◌, ◌≤◌}
use mathlib.Core.Path.{◌≡◌, refl, ap, sym, ◌∙◌}
use mathlib.Core.Bool.{Bool, true, false, cond}
use mathlib.Core.List.{List, [], ◌∷◌, ◌++◌, map}
use native.Mathlib.Omega.{arith}
use native.Mathlib.Nat.{add-zero}
use native.Mathlib.Decide.{dec_le, dec_lt}
use lib.ListN.{length, get_or, take, drop, set, length-set, length-map}
use lib.Seq.{drop-set-lt, take-set-le, take-take, sets, sets-eq}
use lib.Dec.{ltb}
use borrow.Author.Tests.{le-ltb, lt-ltb}
use Rattle.tape.specs.declared.progress.Halt.TheVariants.{Refused, ScriptEnded, TraceFull}
use Rattle.tape.specs.declared.progress.Line.{Line}
use Rattle.tape.specs.Pace.{Pace}
use Rattle.tape.specs.Pace.{Going, Stopped}
use Rattle.tape.specs.declared.rows.Row.{Row}
use Rattle.tape.specs.Layout.{rows_in}
use Rattle.tape.specs.Plan.{failed, ended, Plan, give, refuse, read, write, look, hold}
use Rattle.tape.specs.Run.{State, After, after, noted, halt_of, run, does_at, Gave}
use Rattle.tape.proofs.Laws.{by_cases}
use Rattle.tape.proofs.Layouts.{rows_long, same_first, same-past}

-- What every run leaves of a list with n rows written: as many rows, the first n, and those past the rows that it writes,
-- which are no more than there is room for.
pub record Kept (n : ℕ) (l : List Row) (n' : ℕ) (l' : List Row) : Type 0 where
  pub more : n ≤ n'
  pub within : n ≤ length l → n' ≤ length l
  pub long : length l' ≡ length l
  pub before : take n l' ≡ take n l
  pub past : drop n' l' ≡ drop n' l

untouched : {n : ℕ} {l : List Row} → Kept n l n l
untouched = record { more = omega arith; within = λ h. h; long = refl; before = refl; past = refl }

kept_row : {n : ℕ} {l : List Row} (r : Row) {n' : ℕ} {l' : List Row} → n < length l → Kept (n + 1) (set l n r) n' l' → Kept n l n' l'
kept_row {n} {l} r {n'} {l'} room k =
    record {
      more = omega (arith, k.more);
      within = λ h. rw (length-set l n r) at (k.within (rw (length-set l n r) (omega arith)));
      long = k.long ∙ length-set l n r;
      before =
          sym (take-take n (n + 1) l' (omega arith)) ∙ ap (take n) k.before ∙ take-take n (n + 1) (set l n r) (omega arith)
          ∙ take-set-le n l n r (omega arith);
      past = k.past ∙ drop-set-lt n' l n r (omega (arith, k.more));
    }

abbrev KeptBy : {A : Type 0} → ℕ → List Row → After A → Type 0
KeptBy n l x = Kept n l x.state.progress.rows x.state.list

run-keeps : (s : List ℕ) {A : Type 0} (d : A) (p : Plan A) (u n : ℕ) (h : Line) (l : List Row) → KeptBy n l (run s d p u n h l)
unfolding run
run-keeps s d (give a) u n h l = untouched
run-keeps s d (refuse c) u n h l = untouched
run-keeps s d (read r k z) u n h l =
    by_cases (KeptBy n l) (ltb u (length s)) _ _ (run-keeps s d (k (get_or s u 0)) (u + 1) n h l) (run-keeps s d z u n h l)
run-keeps s {A} d (write r p) u n h l = by (dec_lt n (length l)) (run-keeps s d p u (n + 1) (noted r h) (set l n r))
  where
    by : Dec (n < length l) → KeptBy (n + 1) (set l n r) (run s d p u (n + 1) (noted r h) (set l n r)) → KeptBy n l (run s d (write r p) u n h l)
    by (yes room) ih = rw (lt-ltb n (length l) room) (kept_row r room ih)
    by (no full) ih = rw (le-ltb n (length l) (omega arith)) untouched
run-keeps s d (look k) u n h l = run-keeps s d (k h) u n h l
run-keeps s d (hold h' p) u n h l = run-keeps s d p u n h' l

pub keeps : {s : List ℕ} {A : Type 0} {d : A} {p : Plan A} {w : State} {v : A} {w' : State}
    → Gave s A d p w v w' → Kept w.progress.rows w.list w'.progress.rows w'.list
unfolding does_at
keeps {s} {A} {d} {p} {w} {v} {w'} e = rw (← ap (λ (x : After A). x.state) e.same) at (by w.progress.pace)
  where
    by : (q : Pace) → KeptBy w.progress.rows w.list (does_at s d q p w)
    by Going = run-keeps s d p w.progress.used w.progress.rows w.progress.line w.list
    by (Stopped x) = untouched

-- the same of the words that the rows lie in
pub record WordsKept (n : ℕ) (ws : List ℕ) (n' : ℕ) (ws' : List ℕ) : Type 0 where
  pub long : length ws' ≡ length ws
  pub before : take n ws' ≡ take n ws
  pub past : drop n' ws' ≡ drop n' ws

pub words-kept : {n : ℕ} {ws : List ℕ} {n' : ℕ} {ws' : List ℕ} → Kept n (rows_in ws) n' (rows_in ws') → WordsKept n ws n' ws'
words-kept {n} {ws} {n'} {ws'} k =
    record { long = sym (rows_long ws') ∙ k.long ∙ rows_long ws; before = same_first ws' ws n k.before; past = same-past ws' ws n' k.past }

-- A row as it is written: after how many words, and what the host held before it.
pub record Written : Type 0 where
  pub row : Row
  pub used : ℕ
  pub line : Line

-- What a plan comes to where there is always room.
pub record Free (A : Type 0) : Type 0 where
  pub value : A
  pub pace : Pace
  pub used : ℕ
  pub line : Line
  pub rows : List Written

abbrev pub still : {A : Type 0} → A → Pace → ℕ → Line → Free A
still a q u h = record { value = a; pace = q; used = u; line = h; rows = [] }

abbrev pub with_row : {A : Type 0} → Written → Free A → Free A
with_row x f = record { value = f.value; pace = f.pace; used = f.used; line = f.line; rows = x ∷ f.rows }

unfoldable pub free : List ℕ → {A : Type 0} → A → Plan A → ℕ → Line → Free A
free s d (give a) u h = still a Going u h
free s d (refuse c) u h = still d (Stopped (halt_of c)) u h
free s d (read r k z) u h =
    cond (ltb u (length s)) (free s d (k (get_or s u 0)) (u + 1) h) (free s d z u h)
free s d (write r p) u h = with_row (record { row = r; used = u; line = h }) (free s d p u (noted r h))
free s d (look k) u h = free s d (k h) u h
free s d (hold h' p) u h = free s d p u h'

abbrev pub rows_of : List Written → List Row
rows_of xs = map (λ (x : Written). x.row) xs

-- rows laid in a list of which n rows are written
unfoldable pub laid : List Row → ℕ → List Written → List Row
laid l n [] = l
laid l n (x ∷ xs) = laid (set l n x.row) (n + 1) xs

laid_sets : (l : List Row) (n : ℕ) (xs : List Written) → laid l n xs ≡ sets l n (rows_of xs)
unfolding laid
laid_sets l n [] = refl
laid_sets l n (x ∷ xs) =
    let next : n + 1 ≡ suc n = omega arith in
    laid_sets (set l n x.row) (n + 1) xs ∙ rw next

-- they lie one after the other, and the other rows are as they were
pub laid-between : (l : List Row) (n : ℕ) (xs : List Written) → n + length xs ≤ length l
    → laid l n xs ≡ take n l ++ rows_of xs ++ drop (n + length xs) l
laid-between l n xs h =
    let long : length (rows_of xs) ≡ length xs = length-map xs _ in
    laid_sets l n xs ∙ sets-eq (rows_of xs) l n (omega (arith, long))
    ∙ ap (λ (k : ℕ). take n l ++ rows_of xs ++ drop (n + k) l) long

-- what a plan does given endless room, in a list of which n rows are written
abbrev in_room : {A : Type 0} → Free A → ℕ → List Row → After A
in_room x n l = after x.value x.pace x.used (n + length x.rows) x.line (laid l n x.rows)

abbrev Fits : {A : Type 0} → ℕ → List Row → After A → Free A → Type 0
Fits n l y x = n + length x.rows ≤ length l → y ≡ in_room x n l

both_ways : {X Y : Type 0} (P : X → Y → Type 0) (b : Bool) (x x' : X) (y y' : Y) → P x y → P x' y' → P (cond b x x') (cond b y y')
both_ways P true x x' y y' e e' = e
both_ways P false x x' y y' e e' = e'

-- With room for all its rows, a plan does what it does given endless room.
pub run_fits : (s : List ℕ) {A : Type 0} (d : A) (p : Plan A) (u n : ℕ) (h : Line) (l : List Row) → Fits n l (run s d p u n h l) (free s d p u h)
unfolding run free laid
run_fits s d (give a) u n h l = λ e. rw add-zero
run_fits s d (refuse c) u n h l = λ e. rw add-zero
run_fits s d (read r k z) u n h l = both_ways (Fits n l) (ltb u (length s)) _ _ _ _ (run_fits s d (k (get_or s u 0)) (u + 1) n h l) (run_fits s d z u n h l)
run_fits s d (write r p) u n h l = λ e.
    let x = free s d p u (noted r h) in
    let long : length (set l n r) ≡ length l = simp length-set in
    let more : n + 1 + length x.rows ≡ n + suc (length x.rows) = omega arith in
    rw (lt-ltb n (length l) (omega arith))
    (run_fits s d p u (n + 1) (noted r h) (set l n r) (rw long (omega arith))
    ∙ ap (λ (m : ℕ). after x.value x.pace x.used m x.line (laid (set l n r) (n + 1) x.rows)) more)
run_fits s d (look k) u n h l = run_fits s d (k h) u n h l
run_fits s d (hold h' p) u n h l = run_fits s d p u n h' l

-- With room for k of its rows and no more, it stops before the next one: these k rows are written, and the words taken
-- are those before the row without room.
abbrev stopped_before : {A : Type 0} → A → Written → ℕ → List Row → After A
stopped_before d x n l = after d (Stopped TraceFull) x.used n x.line l

abbrev Full : {A : Type 0} → A → Written → ℕ → List Row → After A → Free A → Type 0
Full d w n l y x =
    (k : ℕ) → n + k ≡ length l → k < length x.rows
    → y ≡ stopped_before d (get_or x.rows k w) (n + k) (laid l n (take k x.rows))

full-row : (s : List ℕ) {A : Type 0} (d : A) (w : Written) (r : Row) (p : Plan A) (u n : ℕ) (h : Line) (l : List Row)
    → Full d w (n + 1) (set l n r) (run s d p u (n + 1) (noted r h) (set l n r)) (free s d p u (noted r h))
    → Full d w n l (run s d (write r p) u n h l) (free s d (write r p) u h)
unfolding run free laid
full-row s d w r p u n h l on zero room more =
    rw (le-ltb n (length l) (omega arith), add-zero)
full-row s d w r p u n h l on (suc k) room more =
    let long : length (set l n r) ≡ length l = simp length-set in
    let same : n + 1 + k ≡ n + suc k = omega arith in
    rw (lt-ltb n (length l) (omega arith)) (rw same at (on k (rw long (omega arith)) (omega arith)))

pub run-full : (s : List ℕ) {A : Type 0} (d : A) (w : Written) (p : Plan A) (u n : ℕ) (h : Line) (l : List Row)
    → Full d w n l (run s d p u n h l) (free s d p u h)
unfolding run free laid
run-full s d w (give a) u n h l = λ k room more. absurd (omega arith)
run-full s d w (refuse c) u n h l = λ k room more. absurd (omega arith)
run-full s d w (read r k z) u n h l =
    both_ways (Full d w n l) (ltb u (length s)) _ _ _ _ (run-full s d w (k (get_or s u 0)) (u + 1) n h l) (run-full s d w z u n h l)
run-full s d w (write r p) u n h l = full-row s d w r p u n h l (run-full s d w p u (n + 1) (noted r h) (set l n r))
run-full s d w (look k) u n h l = run-full s d w (k h) u n h l
run-full s d w (hold h' p) u n h l = run-full s d w p u n h' l

abbrev pub is_full : Pace → Bool
is_full Going = false
is_full (Stopped (Refused e)) = false
is_full (Stopped ScriptEnded) = false
is_full (Stopped TraceFull) = true

free-never-full : (s : List ℕ) {A : Type 0} (d : A) (p : Plan A) (u : ℕ) (h : Line) → is_full (free s d p u h).pace ≡ false
unfolding free
free-never-full s d (give a) u h = refl
free-never-full s d (refuse (failed e)) u h = refl
free-never-full s d (refuse ended) u h = refl
free-never-full s {A} d (read r k z) u h =
    by_cases (λ (x : Free A). is_full x.pace ≡ false) (ltb u (length s)) _ _ (free-never-full s d (k (get_or s u 0)) (u + 1) h) (free-never-full s d z u h)
free-never-full s d (write r p) u h = free-never-full s d p u (noted r h)
free-never-full s d (look k) u h = free-never-full s d (k h) u h
free-never-full s d (hold h' p) u h = free-never-full s d p u h'

-- 22 exactly when the call, given endless room, would write more.
pub full_exactly : (s : List ℕ) {A : Type 0} (d : A) (p : Plan A) (u n : ℕ) (h : Line) (l : List Row) → n ≤ length l
    → is_full (run s d p u n h l).state.progress.pace ≡ ltb (length l) (n + length (free s d p u h).rows)
full_exactly s {A} d p u n h l e = by (dec_le (n + length (free s d p u h).rows) (length l))
  where
    x : Free A
    x = free s d p u h

    by : Dec (n + length x.rows ≤ length l)
        → is_full (run s d p u n h l).state.progress.pace ≡ ltb (length l) (n + length x.rows)
    by (yes fits) =
        ap (λ (y : After A). is_full y.state.progress.pace) (run_fits s d p u n h l fits)
        ∙ free-never-full s d p u h ∙ sym (le-ltb _ _ fits)
    by (no over) =
        ap (λ (y : After A). is_full y.state.progress.pace)
        (run-full s d (record { row = record { register = 0; value = 0 }; used = u; line = h }) p u n h l (length l - n) (omega arith) (omega arith))
        ∙ sym (lt-ltb (length l) (n + length x.rows) (omega arith))

pub gave-full : {s : List ℕ} {A : Type 0} {d : A} {p : Plan A} {w : State} {v : A} {w' : State}
    → w.progress.pace ≡ Going → w.progress.rows ≤ length w.list → Gave s A d p w v w'
    → is_full w'.progress.pace
    ≡ ltb (length w.list) (w.progress.rows + length (free s d p w.progress.used w.progress.line).rows)
unfolding does_at
gave-full {s} {A} {d} {p} {w} g h e =
    ap (λ (x : After A). is_full x.state.progress.pace) (rw g at e.same)
    ∙ full_exactly s d p w.progress.used w.progress.rows w.progress.line w.list h
