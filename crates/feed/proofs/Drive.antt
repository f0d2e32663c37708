-- What is ahead, run on a script turn by turn; each turn leaves one fewer of those that it takes.
use Prim.Native.Nat.{ℕ, suc, ◌+◌, ◌<◌, ◌≤◌}
use mathlib.Core.Path.{◌≡◌, refl, ap, sym}
use mathlib.Core.List.{List}
use lib.ListN.{length, get_or, set}
use borrow.Author.Tests.{lt-ltb, le-ltb}
use Rattle.tape.specs.declared.progress.Halt.TheVariants.{TraceFull}
use Rattle.tape.specs.declared.progress.Line.{Line}
use Rattle.tape.specs.Pace.{Stopped}
use Rattle.tape.specs.declared.rows.Row.{Row}
use Rattle.tape.specs.declared.script.Reading.{Reading}
use Rattle.tape.specs.Plan.{Plan, give, refuse, read, write, look, hold}
use Rattle.tape.specs.Run.{after, noted, run}
use Rattle.step.specs.Next.{asks, tells, next, heard, told, missed}
use Rattle.feed.specs.Runs.{run_next, lies_at, place_run, place_next, span, next_span}

module _ (s : List ℕ) {A : Type 0} (d : A) where
  pub run-next : (p : Plan A) (u n : ℕ) (h : Line) (l : List Row) → run_next s d (next p h) u n l ≡ run s d p u n h l
  unfolding run_next next run
  run-next (give a) u n h l = refl
  run-next (refuse c) u n h l = refl
  run-next (read r k z) u n h l = refl
  run-next (write r p) u n h l = refl
  run-next (look k) u n h l = run-next (k h) u n h l
  run-next (hold h' p) u n h l = run-next p u n h' l

  -- a word; a row; no word left; no room
  pub run-heard : (h : Line) (r : Reading) (k : ℕ → Plan A) (z : Plan A) (u n : ℕ) (l : List Row) → u < length s
      → run_next s d (asks h r k z) u n l ≡ run_next s d (heard (asks h r k z) (get_or s u 0)) (u + 1) n l
  unfolding run_next heard run
  run-heard h r k z u n l within = rw (lt-ltb _ _ within) (sym (run-next (k (get_or s u 0)) (u + 1) n h l))

  pub run-told : (h : Line) (r : Row) (p : Plan A) (u n : ℕ) (l : List Row) → n < length l
      → run_next s d (tells h r p) u n l ≡ run_next s d (told (tells h r p)) u (n + 1) (set l n r)
  unfolding run_next told run
  run-told h r p u n l room = rw (lt-ltb _ _ room) (sym (run-next p u (n + 1) (noted r h) (set l n r)))

  pub run-missed : (h : Line) (r : Reading) (k : ℕ → Plan A) (z : Plan A) (u n : ℕ) (l : List Row) → length s ≤ u
      → run_next s d (asks h r k z) u n l ≡ run_next s d (missed (asks h r k z)) u n l
  unfolding run_next missed run
  run-missed h r k z u n l none = rw (le-ltb _ _ none) (sym (run-next z u n h l))

  pub run-full : (h : Line) (r : Row) (p : Plan A) (u n : ℕ) (l : List Row) → length l ≤ n
      → run_next s d (tells h r p) u n l ≡ after d (Stopped TraceFull) u n h l
  unfolding run_next run
  run-full h r p u n l none = rw (le-ltb _ _ none)

-- the same of where the data words lie
module _ (s : List ℕ) {A : Type 0} where
  pub place-next : (p : Plan A) (q u n : ℕ) (h : Line) (l : List Row) → place_next s (next p h) q u n l ≡ place_run s p q u n h l
  unfolding place_next next place_run
  place-next (give a) q u n h l = refl
  place-next (refuse c) q u n h l = refl
  place-next (read r k z) q u n h l = refl
  place-next (write r p) q u n h l = refl
  place-next (look k) q u n h l = place-next (k h) q u n h l
  place-next (hold h' p) q u n h l = place-next p q u n h' l

  pub place-heard : (h : Line) (r : Reading) (k : ℕ → Plan A) (z : Plan A) (q u n : ℕ) (l : List Row) → u < length s
      → place_next s (asks h r k z) q u n l ≡ place_next s (heard (asks h r k z) (get_or s u 0)) (lies_at r u q) (u + 1) n l
  unfolding place_next heard place_run
  place-heard h r k z q u n l within = rw (lt-ltb _ _ within) (sym (place-next (k (get_or s u 0)) (lies_at r u q) (u + 1) n h l))

  pub place-told : (h : Line) (r : Row) (p : Plan A) (q u n : ℕ) (l : List Row) → n < length l
      → place_next s (tells h r p) q u n l ≡ place_next s (told (tells h r p)) q u (n + 1) (set l n r)
  unfolding place_next told place_run
  place-told h r p q u n l room = rw (lt-ltb _ _ room) (sym (place-next p q u (n + 1) (noted r h) (set l n r)))

  pub place-missed : (h : Line) (r : Reading) (k : ℕ → Plan A) (z : Plan A) (q u n : ℕ) (l : List Row) → length s ≤ u
      → place_next s (asks h r k z) q u n l ≡ place_next s (missed (asks h r k z)) q u n l
  unfolding place_next missed place_run
  place-missed h r k z q u n l none = rw (le-ltb _ _ none) (sym (place-next z q u n h l))

  pub place-full : (h : Line) (r : Row) (p : Plan A) (q u n : ℕ) (l : List Row) → length l ≤ n → place_next s (tells h r p) q u n l ≡ q
  unfolding place_next place_run
  place-full h r p q u n l none = rw (le-ltb _ _ none)

  pub span-next : (p : Plan A) (u : ℕ) (h : Line) → next_span s (next p h) u ≡ span s p u h
  unfolding next_span next span
  span-next (give a) u h = refl
  span-next (refuse c) u h = refl
  span-next (read r k z) u h = refl
  span-next (write r p) u h = refl
  span-next (look k) u h = span-next (k h) u h
  span-next (hold h' p) u h = span-next p u h'

  pub heard-span : (h : Line) (r : Reading) (k : ℕ → Plan A) (z : Plan A) (u : ℕ) → u < length s
      → next_span s (asks h r k z) u ≡ suc (next_span s (heard (asks h r k z) (get_or s u 0)) (u + 1))
  unfolding next_span heard span
  heard-span h r k z u within = rw (lt-ltb _ _ within) (ap suc (sym (span-next (k (get_or s u 0)) (u + 1) h)))

  pub missed-span : (h : Line) (r : Reading) (k : ℕ → Plan A) (z : Plan A) (u : ℕ) → length s ≤ u
      → next_span s (asks h r k z) u ≡ suc (next_span s (missed (asks h r k z)) u)
  unfolding next_span missed span
  missed-span h r k z u none = rw (le-ltb _ _ none) (ap suc (sym (span-next z u h)))

  pub told-span : (h : Line) (r : Row) (p : Plan A) (u : ℕ) → next_span s (tells h r p) u ≡ suc (next_span s (told (tells h r p)) u)
  unfolding next_span told span
  told-span h r p u = ap suc (sym (span-next p u (noted r h)))
