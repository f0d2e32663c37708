-- What holds along every run of a plan. A rule says what the host may hold on the way, which rows are written and what a plan
-- may be refused with. A plan that obeys it leaves such a line, such a row last, and no other refusal; and since it says that its
-- script has ended only where a reading found no word, all words were taken where it has.
use Prim.Native.Nat.{ℕ, zero, suc, ◌+◌, ◌≤◌, ◌<◌}
use mathlib.Core.Bool.{Bool, true, false, cond}
use mathlib.Core.List.{List}
use mathlib.Core.Path.{◌≡◌, refl}
use native.Mathlib.Omega.{arith}
use native.Mathlib.Decide.{dec_lt}
use lib.Dec.{ltb}
use lib.ListN.{length, get_or, set}
use lib.Seq.{get_or-set_same}
use borrow.Author.Tests.{le-ltb, lt-ltb, ltb-true}
use Rattle.types.specs.declared.error.Error.{Error}
use Rattle.types.specs.declared.error.Error.TheVariants as E
use Rattle.tape.specs.declared.progress.Halt.TheVariants.{Refused, ScriptEnded, TraceFull}
use Rattle.tape.specs.declared.progress.Line.{Line}
use Rattle.tape.specs.Pace.{Going, Stopped}
use Rattle.tape.specs.declared.rows.Row.{Row}
use Rattle.tape.specs.declared.script.Reading.{Reading}
use Rattle.tape.specs.Plan.{Nothing, Cause, failed, ended, Plan, give, refuse, read, write, look, hold, handle, ◌then◌, refusing, fail, ensure, until}
use Rattle.tape.specs.Layout.{row_of}
use Rattle.tape.specs.Rows.{FIFO}
use Rattle.tape.specs.Run.{After, noted, run}
use Rattle.tape.specs.Steps.{word, row, data_from, send_from}
use Rattle.tape.proofs.Laws.{by_cases}

-- `noted`: a row leaves such a line as it was, but for CLKCR
pub record Rule : Type 1 where
  pub holds : Line → Type 0
  pub writes : Row → Type 0
  pub refuses : Error → Type 0
  pub noted : (r : Row) (h : Line) → holds h → holds (noted r h)

-- `out`: a reading has found no word. From there on none finds one, and a plan closes: it writes what it has to, and says that
-- its script has ended
unfoldable pub obeys : {A : Type 0} → Rule → Bool → Plan A → Type 0
obeys rule true (give a) = ⊥
obeys rule false (give a) = Unit {0}
obeys rule true (refuse (failed e)) = ⊥
obeys rule false (refuse (failed e)) = rule.refuses e
obeys rule out (refuse ended) = out ≡ true
obeys rule true (read r k z) = obeys rule true z
obeys rule false (read r k z) = ((w : ℕ) → obeys rule false (k w)) × obeys rule true z
obeys rule out (write r p) = rule.writes r × obeys rule out p
obeys rule out (look k) = (h : Line) → rule.holds h → obeys rule out (k h)
obeys rule out (hold h p) = rule.holds h × obeys rule out p

pub record Obeys (rule : Rule) (A : Type 0) (p : Plan A) : Type 0 where
  pub each : obeys rule false p

pub record Closes (rule : Rule) (A : Type 0) (p : Plan A) : Type 0 where
  pub each : obeys rule true p

-- steps that only write: what a guard or a gate does
unfoldable pub rows_only : Rule → Plan Nothing → Type 0
rows_only rule (give a) = Unit {0}
rows_only rule (refuse c) = ⊥
rows_only rule (read r k z) = ⊥
rows_only rule (write r p) = rule.writes r × rows_only rule p
rows_only rule (look k) = (h : Line) → rule.holds h → rows_only rule (k h)
rows_only rule (hold h p) = rule.holds h × rows_only rule p

pub record RowsOnly (rule : Rule) (p : Plan Nothing) : Type 0 where
  pub each : rows_only rule p

-- the last of n rows in a list, where there is one
pub record LastRow (W : Row → Type 0) (n : ℕ) (l : List Row) : Type 0 where
  pub last : (k : ℕ) → n ≡ k + 1 → W (get_or l k (row_of 0))

last_written : (W : Row → Type 0) (l : List Row) (n : ℕ) (r : Row) → n < length l → W r → LastRow W (n + 1) (set l n r)
last_written W l n r room w =
    record { last = λ k e. let same : k ≡ n = omega arith in rw (same, get_or-set_same l n r (row_of 0) room) w }

-- of either way, of the first where the test holds
where_room : {X : Type 0} (P : X → Type 0) (b : Bool) (x y : X) → (b ≡ true → P x) → P y → P (cond b x y)
where_room P true x y e e' = e refl
where_room P false x y e e' = e'

-- what a run leaves that began with u words used
pub record Obeyed (rule : Rule) (s : List ℕ) (u : ℕ) {A : Type 0} (x : After A) : Type 0 where
  pub line : rule.holds x.state.progress.line
  pub refused : (e : Error) → x.state.progress.pace ≡ Stopped (Refused e) → rule.refuses e
  pub ended : x.state.progress.pace ≡ Stopped ScriptEnded → u ≤ length s → x.state.progress.used ≡ length s

never : {X : Type 0} → ◌≡◌ {A = Bool} false true → X
never e = let z : ◌≡◌ {A = ℕ} 0 1 = cc in absurd (omega arith)

module _ (rule : Rule) (s : List ℕ) where
  unstopped : {A : Type 0} {x : After A} (u : ℕ) → x.state.progress.pace ≡ Going → rule.holds x.state.progress.line → Obeyed rule s u x
  unstopped u g h =
      record {
        line = h;
        refused = λ e f. let z : ◌≡◌ {A = ℕ} 0 1 = cc in absurd (omega arith);
        ended = λ f m. let z : ◌≡◌ {A = ℕ} 0 1 = cc in absurd (omega arith);
      }

  unroomed : {A : Type 0} {x : After A} (u : ℕ) → x.state.progress.pace ≡ Stopped TraceFull → rule.holds x.state.progress.line → Obeyed rule s u x
  unroomed u g h =
      record {
        line = h;
        refused = λ e f. let z : ◌≡◌ {A = ℕ} 0 1 = cc in absurd (omega arith);
        ended = λ f m. let z : ◌≡◌ {A = ℕ} 0 1 = cc in absurd (omega arith);
      }

  -- THE LAW of plans that obey
  ran : {A : Type 0} (out : Bool) (d : A) (p : Plan A) (u n : ℕ) (h : Line) (l : List Row) → (out ≡ true → length s ≤ u) → obeys rule out p
      → rule.holds h → Obeyed rule s u (run s d p u n h l)
  unfolding obeys run
  ran true d (give a) u n h l o b i = absurd b
  ran false d (give a) u n h l o b i = unstopped u refl i
  ran true d (refuse (failed e)) u n h l o b i = absurd b
  ran false d (refuse (failed e)) u n h l o b i =
      record {
        line = i;
        refused = λ x f. let same : e ≡ x = cc in rw same at b;
        ended = λ f m. let z : ◌≡◌ {A = ℕ} 0 1 = cc in absurd (omega arith);
      }
  ran out d (refuse ended) u n h l o b i =
      record {
        line = i;
        refused = λ x f. let z : ◌≡◌ {A = ℕ} 0 1 = cc in absurd (omega arith);
        ended = λ f m. let all = o b in omega (arith, all, m);
      }
  ran true d (read r k z) u n h l o b i = rw (le-ltb u (length s) (o refl)) (ran true d z u n h l o b i)
  ran {A} false d (read r k z) u n h l o b i =
      by (dec_lt u (length s)) (ran false d (k (get_or s u 0)) (u + 1) n h l never (b.0 (get_or s u 0)) i) (λ e. ran true d z u n h l (λ _. e) b.1 i)
    where
      by : Dec (u < length s) → Obeyed rule s (u + 1) (run s d (k (get_or s u 0)) (u + 1) n h l) → (length s ≤ u → Obeyed rule s u (run s d z u n h l))
          → Obeyed rule s u (run s d (read r k z) u n h l)
      by (yes some) ih out =
          rw (lt-ltb u (length s) some) (record { line = ih.line; refused = ih.refused; ended = λ f m. ih.ended f (omega arith) })
      by (no none) ih out = rw (le-ltb u (length s) (omega arith)) (out (omega arith))
  ran out d (write r p) u n h l o b i =
      by_cases (Obeyed rule s u) (ltb n (length l)) _ _ (ran out d p u (n + 1) (noted r h) (set l n r) o b.1 (rule.noted r h i)) (unroomed u refl i)
  ran out d (look k) u n h l o b i = ran out d (k h) u n h l o (b h i) i
  ran out d (hold h' p) u n h l o b i = ran out d p u n h' l o b.1 b.0

  pub run-obeys : {A : Type 0} (d : A) (p : Plan A) (u n : ℕ) (h : Line) (l : List Row) → obeys rule false p → rule.holds h
      → Obeyed rule s u (run s d p u n h l)
  run-obeys d p u n h l b i = ran false d p u n h l never b i

  abbrev LastOf : {A : Type 0} → After A → Type 0
  LastOf x = LastRow rule.writes x.state.progress.rows x.state.list

  run-last : {A : Type 0} (out : Bool) (d : A) (p : Plan A) (u n : ℕ) (h : Line) (l : List Row) → (out ≡ true → length s ≤ u) → obeys rule out p
      → rule.holds h → LastRow rule.writes n l → LastOf (run s d p u n h l)
  unfolding obeys run
  run-last out d (give a) u n h l o b i e = e
  run-last out d (refuse c) u n h l o b i e = e
  run-last true d (read r k z) u n h l o b i e = rw (le-ltb u (length s) (o refl)) (run-last true d z u n h l o b i e)
  run-last {A} false d (read r k z) u n h l o b i e =
      by (dec_lt u (length s)) (run-last false d (k (get_or s u 0)) (u + 1) n h l never (b.0 (get_or s u 0)) i e)
      (λ m. run-last true d z u n h l (λ _. m) b.1 i e)
    where
      by : Dec (u < length s) → LastOf (run s d (k (get_or s u 0)) (u + 1) n h l) → (length s ≤ u → LastOf (run s d z u n h l))
          → LastOf (run s d (read r k z) u n h l)
      by (yes some) ih out = rw (lt-ltb u (length s) some) ih
      by (no none) ih out = rw (le-ltb u (length s) (omega arith)) (out (omega arith))
  run-last {A} out d (write r p) u n h l o b i e =
      where_room LastOf (ltb n (length l)) _ _
      (λ t. run-last out d p u (n + 1) (noted r h) (set l n r) o b.1 (rule.noted r h i) (last_written rule.writes l n r (ltb-true n (length l) t) b.0)) e
  run-last out d (look k) u n h l o b i e = run-last out d (k h) u n h l o (b h i) i e
  run-last out d (hold h' p) u n h l o b i e = run-last out d p u n h' l o b.1 b.0 e

  -- so of a plan that starts with no row written
  pub starts-last : {A : Type 0} (d : A) {p : Plan A} (h : Line) (l : List Row) → Obeys rule A p → rule.holds h
      → LastRow rule.writes (run s d p 0 0 h l).state.progress.rows (run s d p 0 0 h l).state.list
  starts-last d {p} h l b i = run-last false d p 0 0 h l never b.each i (record { last = λ k e. absurd (omega arith) })

-- steps that only write obey, and close where the script's end follows them
module _ (rule : Rule) where
  rows_obey : (q : Plan Nothing) → rows_only rule q → obeys rule false q
  unfolding rows_only obeys
  rows_obey (give a) b = tt
  rows_obey (refuse c) b = absurd b
  rows_obey (read r k z) b = absurd b
  rows_obey (write r q) b = (b.0, rows_obey q b.1)
  rows_obey (look k) b = λ h i. rows_obey (k h) (b h i)
  rows_obey (hold h q) b = (b.0, rows_obey q b.1)

  rows_close : (A : Type 0) (q : Plan Nothing) → rows_only rule q → obeys rule true (refusing {A = A} q ended)
  unfolding rows_only obeys handle
  rows_close A (give a) b = refl
  rows_close A (refuse c) b = absurd b
  rows_close A (read r k z) b = absurd b
  rows_close A (write r q) b = (b.0, rows_close A q b.1)
  rows_close A (look k) b = λ h i. rows_close A (k h) (b h i)
  rows_close A (hold h q) b = (b.0, rows_close A q b.1)

-- Its laws: of every way that plans are joined.
module _ {rule : Rule} where
  module _ {A B : Type 0} (f : A → Plan B) (g : Cause → Plan B) (y : Closes rule B (g ended)) where
    joined-out : (p : Plan A) → obeys rule true p → obeys rule true (handle f g p)
    unfolding obeys handle
    joined-out (give a) b = absurd b
    joined-out (refuse (failed e)) b = absurd b
    joined-out (refuse ended) b = y.each
    joined-out (read r k z) b = joined-out z b
    joined-out (write r p) b = (b.0, joined-out p b.1)
    joined-out (look k) b = λ h i. joined-out (k h) (b h i)
    joined-out (hold h p) b = (b.0, joined-out p b.1)

  module _ {A B : Type 0} (f : A → Plan B) (g : Cause → Plan B) (v : (a : A) → Obeys rule B (f a)) (x : (e : Error) → rule.refuses e → Obeys rule B (g (failed e))) (y : Closes rule B (g ended)) where
    joined : (p : Plan A) → obeys rule false p → obeys rule false (handle f g p)
    unfolding obeys handle
    joined (give a) b = (v a).each
    joined (refuse (failed e)) b = (x e b).each
    joined (refuse ended) b = never b
    joined (read r k z) b = (λ w. joined (k w) (b.0 w), joined-out f g y z b.1)
    joined (write r p) b = (b.0, joined p b.1)
    joined (look k) b = λ h i. joined (k h) (b h i)
    joined (hold h p) b = (b.0, joined p b.1)

  pub on-handle : {A B : Type 0} {p : Plan A} {f : A → Plan B} (g : Cause → Plan B)
      → Obeys rule A p → ((a : A) → Obeys rule B (f a)) → ((e : Error) → rule.refuses e → Obeys rule B (g (failed e))) → Closes rule B (g ended)
      → Obeys rule B (handle f g p)
  on-handle {p = p} {f = f} g b v x y = record { each = joined f g v x y p b.each }

  -- the script's end, handed on
  pub on-end : {A : Type 0} → Closes rule A (refuse ended)
  unfolding obeys
  on-end = record { each = refl }

  pub on-give : {A : Type 0} {a : A} → Obeys rule A (give a)
  unfolding obeys
  on-give = record { each = tt }

  pub on-fail : {A : Type 0} {e : Error} → rule.refuses e → Obeys rule A (fail e)
  unfolding obeys
  on-fail b = record { each = b }

  pub on_then : {A B : Type 0} {p : Plan A} {f : A → Plan B} → Obeys rule A p → ((a : A) → Obeys rule B (f a)) → Obeys rule B (p then f)
  on_then b v = on-handle refuse b v (λ e r. on-fail r) on-end

  pub on-look : {A : Type 0} {k : Line → Plan A} → ((h : Line) → rule.holds h → Obeys rule A (k h)) → Obeys rule A (look k)
  unfolding obeys
  on-look v = record { each = λ h i. (v h i).each }

  pub on-hold : {A : Type 0} {h : Line} {p : Plan A} → rule.holds h → Obeys rule A p → Obeys rule A (hold h p)
  unfolding obeys
  on-hold i b = record { each = (i, b.each) }

  pub on_test : {A : Type 0} (b : Bool) {p q : Plan A} → Obeys rule A p → Obeys rule A q → Obeys rule A (cond b p q)
  on_test true y n = y
  on_test false y n = n

  pub on_word : (r : Reading) → Obeys rule ℕ (word r)
  unfolding word obeys
  on_word r = record { each = (λ w. tt, refl) }

  pub on_row : (register value : ℕ) → rule.writes (record { register = register; value = value }) → Obeys rule Nothing (row register value)
  unfolding row obeys
  on_row register value w = record { each = (w, tt) }

  pub on-ensure : (b : Bool) (e : Error) → rule.refuses e → Obeys rule Nothing (ensure b e)
  unfolding ensure
  on-ensure b e r = on_test b on-give (on-fail r)

  pub on-until : {A : Type 0} (n : ℕ) (enough : A → Bool) {p : Plan A} → rule.refuses E.SoftwareTimeout → Obeys rule A p → Obeys rule A (until n enough p)
  unfolding until
  on-until zero enough r b = on-fail r
  on-until (suc n) enough r b = on_then b (λ v. on_test (enough v) on-give (on-until n enough r b))

  pub on_data : (k n : ℕ) → Obeys rule (List ℕ) (data_from k n)
  unfolding data_from
  on_data k zero = on-give
  on_data k (suc n) = on_then (on_word _) (λ w. on_then (on_data (k + 1) n) (λ ws. on-give))

  pub on_send : ((value : ℕ) → rule.writes (record { register = FIFO; value = value })) → (ws : List ℕ) (k n : ℕ) → Obeys rule Nothing (send_from ws k n)
  unfolding send_from
  on_send any ws k zero = on-give
  on_send any ws k (suc n) = on_then (on_row _ _ (any _)) (λ _. on_send any ws (k + 1) n)

  -- Of steps that only write, and of the guard and the gate, which do such steps after every refusal.

  pub on-rows : {q : Plan Nothing} → RowsOnly rule q → Obeys rule Nothing q
  on-rows {q = q} b = record { each = rows_obey rule q b.each }

  pub on-closing : {A B : Type 0} {p : Plan A} {f : A → Plan B} {q : Plan Nothing}
      → Obeys rule A p → ((a : A) → Obeys rule B (f a)) → RowsOnly rule q → Obeys rule B (handle f (refusing q) p)
  on-closing {B = B} {q = q} b v c =
      on-handle (refusing q) b v (λ e r. on_then (on-rows c) (λ _. on-fail r)) (record { each = rows_close rule B q c.each })

  pub rows_row : (register value : ℕ) → rule.writes (record { register = register; value = value }) → RowsOnly rule (row register value)
  unfolding row rows_only
  rows_row register value w = record { each = (w, tt) }

  pub rows-look : {k : Line → Plan Nothing} → ((h : Line) → rule.holds h → RowsOnly rule (k h)) → RowsOnly rule (look k)
  unfolding rows_only
  rows-look v = record { each = λ h i. (v h i).each }

  module _ (f : Nothing → Plan Nothing) (v : (a : Nothing) → RowsOnly rule (f a)) where
    rows-joined : (p : Plan Nothing) → rows_only rule p → rows_only rule (p then f)
    unfolding rows_only handle
    rows-joined (give a) b = (v a).each
    rows-joined (refuse c) b = absurd b
    rows-joined (read r k z) b = absurd b
    rows-joined (write r p) b = (b.0, rows-joined p b.1)
    rows-joined (look k) b = λ h i. rows-joined (k h) (b h i)
    rows-joined (hold h p) b = (b.0, rows-joined p b.1)

  pub rows_then : {p : Plan Nothing} {f : Nothing → Plan Nothing} → RowsOnly rule p → ((a : Nothing) → RowsOnly rule (f a)) → RowsOnly rule (p then f)
  rows_then {p = p} {f = f} b v = record { each = rows-joined f v p b.each }
