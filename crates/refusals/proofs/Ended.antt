-- 21, and the script's end, of whole calls: where a reading finds no word the answer is 21, or 22 if a closing row finds no
-- room; 21 comes nowhere else; and all words were used.
use Rattle.std.specs.Prelude.{Ok}
use Prim.Native.Nat.{ℕ, ◌≤◌, ◌<◌}
use mathlib.Core.Bool.{Bool, true, false, cond, ◌||◌}
use mathlib.Core.List.{List, [], ◌++◌}
use mathlib.Core.Path.{◌≡◌, ap, sym, ◌∙◌}
use native.Mathlib.Omega.{arith}
use native.Mathlib.Decide.{dec_le}
use lib.Dec.{eqb, ltb}
use lib.ListN.{length, get_or, length-append}
use borrow.Author.Tests.{le-ltb, lt-ltb}
use Rattle.types.specs.declared.clock.Clock.{Clock}
use Rattle.types.specs.declared.error.Answer.TheVariants as Answered
use Rattle.types.specs.declared.error.Error.TheVariants as E
use Rattle.types.specs.Leaf.{clock_of}
use Rattle.tape.specs.declared.progress.Line.{Line}
use Rattle.tape.specs.declared.rows.Row.{Row}
use Rattle.tape.specs.Plan.{Plan, fail}
use Rattle.tape.specs.Run.{After, run}
use Rattle.tape.proofs.Ends.{EndsThere, ends_there}
use Rattle.tape.proofs.Room.{Written, free, run_fits, run-full}
use Rattle.tape.proofs.Walk.{Rule, obeys}
use Rattle.tape.proofs.Words.{Reach, reach, Closed, at_its_end, late-row}
use Rattle.bus.specs.Transfer.{Buffer}
use Rattle.bus.proofs.Delays.{fair}
use Rattle.init.specs.Initialise.{source_of, no_card, initialise}
use Rattle.init.proofs.Walks.{clock_rule, initialise-obeys}
use Rattle.host.specs.declared.host.Sdmmc.{Sdmmc}
use Rattle.host.specs.Calls.{Came, untouched, fresh_line, init_from, initialised, blocks_came, status_came}
use Rattle.refusals.specs.Whole.{init_at, init_whole, blocks_whole, status_whole, answer_of, Ran}
use Rattle.refusals.proofs.Whole.{would_write, ended-pace, plain, unclocked, blocks-walk, status-walk, steps-ran, blocks-ran, status-ran}

-- a reading finds no word, and there is room for the rows before it
pub record RunsOut (l : List Row) (c : Reach) : Type 0 where
  pub short : c.short ≡ true
  pub reached : length c.rows ≤ length l

-- of a call that would write so many rows, given endless room: those that close it are counted
pub record Ended (s : List ℕ) (l : List Row) (c : Reach) (would : ℕ) (x : Came) : Type 0 where
  pub answer : RunsOut l c → x.answer ≡ cond (ltb (length l) would) Answered.TraceFull Answered.ScriptEnded
  pub words : RunsOut l c → x.words ≡ length s
  pub nowhere : x.answer ≡ Answered.ScriptEnded → RunsOut l c

-- so at 21 every word of the script was used
pub all-used : {s : List ℕ} {l : List Row} {c : Reach} {would : ℕ} {x : Came} → Ended s l c would x → x.answer ≡ Answered.ScriptEnded → x.words ≡ length s
all-used e r = e.words (e.nowhere r)

full_not_21 : Answered.TraceFull ≡ Answered.ScriptEnded → ⊥
full_not_21 e = let z : ◌≡◌ {A = ℕ} 0 1 = cc in omega arith

module _ (rule : Rule) {A : Type 0} (d : A) (p : Plan A) (h : Line) (s : List ℕ) (l : List Row) (x : Came) (ran : Ran x (run s d p 0 0 h l)) where
  c : Reach
  c = reach s p 0 h

  would : ℕ
  would = would_write s d p h

  -- with room for all its rows
  fits-ended : Closed A (length s) c (free s d p 0 h) → EndsThere A c (free s d p 0 h) → length c.rows ≤ would → would ≤ length l → Ended s l c would x
  unfolding c would
  fits-ended closed there more fits =
      let all = run_fits s d p 0 0 h l (omega (arith, fits)) in
      let told : x.answer ≡ answer_of (free s d p 0 h).pace = ran.answer ∙ ap (λ (y : After A). answer_of y.state.progress.pace) all in
      record {
        answer = λ out. rw (le-ltb (length l) (would_write s d p h) fits) (told ∙ ap answer_of (there.here out.short));
        words = λ out. ran.words ∙ ap (λ (y : After A). y.state.progress.used) all ∙ closed.all out.short;
        nowhere = λ r.
            record { short = there.only (ended-pace (free s d p 0 h).pace (sym told ∙ r)); reached = omega (arith, more, fits) };
      }

  -- and without: a row that finds none after the words have run out is a closing row
  full-ended : Closed A (length s) c (free s d p 0 h) → length l < would → Ended s l c would x
  unfolding c would
  full-ended closed over =
      let w : Written = record { row = record { register = 0; value = 0 }; used = 0; line = h } in
      let rows = (free s d p 0 h).rows in
      let some = run-full s d w p 0 0 h l (length l) (omega arith) over in
      let told : x.answer ≡ Answered.TraceFull = ran.answer ∙ ap (λ (y : After A). answer_of y.state.progress.pace) some in
      let long : length l < length ((reach s p 0 h).rows ++ closed.closing) = rw closed.rows at over in
      record {
        answer = λ out. rw (lt-ltb (length l) (would_write s d p h) over) told;
        words = λ out.
            ran.words ∙ ap (λ (y : After A). y.state.progress.used) some
            ∙ ap (λ (xs : List Written). (get_or xs (length l) w).used) closed.rows
            ∙ late-row (length s) (reach s p 0 h).rows closed.closing w (length l) closed.late out.reached long;
        nowhere = λ r. absurd (full_not_21 (sym told ∙ r));
      }

  ended_at : obeys rule false p → rule.holds h → Ended s l (reach s p 0 h) (would_write s d p h) x
  unfolding c would
  ended_at b i = by (dec_le (would_write s d p h) (length l)) (at_its_end s d p 0 h (omega arith))
    where
      by : Dec (would_write s d p h ≤ length l) → Closed A (length s) (reach s p 0 h) (free s d p 0 h) → Ended s l (reach s p 0 h) (would_write s d p h) x
      by (yes fits) closed =
          let more : length (reach s p 0 h).rows ≤ would_write s d p h = rw closed.rows (omega (arith, length-append (reach s p 0 h).rows closed.closing)) in
          fits-ended closed (ends_there rule s d p 0 h b i) more fits
      by (no over) closed = full-ended closed (omega arith)

module _ (host : Sdmmc) (s : List ℕ) (l : List Row) where
  pub blocks-ended : (buffer : Buffer) (index bytes : ℕ)
      → Ended s l (reach s (blocks_whole host buffer index bytes) 0 host.line) (would_write s [] (blocks_whole host buffer index bytes) host.line) (blocks_came host buffer index bytes s l)
  blocks-ended buffer index bytes =
      ended_at (plain host buffer) [] (blocks_whole host buffer index bytes) host.line s l (blocks_came host buffer index bytes s l) (blocks-ran host s l buffer index bytes)
      (blocks-walk host buffer index bytes).each tt

  pub status-ended : Ended s l (reach s (status_whole host) 0 host.line) (would_write s [] (status_whole host) host.line) (status_came host s l)
  status-ended = ended_at unclocked [] (status_whole host) host.line s l (status_came host s l) (status-ran host s l) (status-walk host).each tt

  -- an initialisation, of a host such as is made
  pub initialise-ended : 2 ≤ source_of host.settings → (c : Clock) → clock_of (source_of host.settings) 400_000 false ≡ Ok c → (frequency : ℕ)
      → Ended s l (reach s (init_whole host frequency) 0 host.line) (would_write s no_card (init_whole host frequency) host.line) (initialised host frequency s l)
  unfolding initialised init_whole init_at reach free
  initialise-ended from2 c clocked frequency = rw clocked (by (eqb frequency 0 || ltb 50_000_000 frequency))
    where
      by : (b : Bool)
          → Ended s l (reach s (cond b (fail E.BadClock) (init_at host frequency (Ok c))) 0 host.line)
          (would_write s no_card (cond b (fail E.BadClock) (init_at host frequency (Ok c))) host.line)
          (cond b (untouched host E.BadClock l) (init_from host frequency (Ok c) s l))
      by true =
          record {
            answer = λ out. let no = out.short in let z : ◌≡◌ {A = ℕ} 0 1 = cc in absurd (omega arith);
            words = λ out. let no = out.short in let z : ◌≡◌ {A = ℕ} 0 1 = cc in absurd (omega arith);
            nowhere = λ r. let z : ◌≡◌ {A = ℕ} 0 1 = cc in absurd (omega arith);
          }
      by false =
          let f = fair _ 400_000 false c from2 clocked in
          ended_at (clock_rule host.settings) no_card (initialise host.settings c frequency) (fresh_line c.frequency) s l
          (init_from host frequency (Ok c) s l) (steps-ran host from2 c clocked frequency s l)
          (initialise-obeys host.settings from2 c frequency f).each f
