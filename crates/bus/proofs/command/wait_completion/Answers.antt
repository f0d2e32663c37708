use Prim.Native.Nat.{ℕ, ◌+◌, ◌≤◌, ◌<◌}
use mathlib.Core.Bool.{Bool, true, false, not, ◌&&◌}
use mathlib.Core.List.{List}
use mathlib.Core.Path.{◌≡◌, refl, ap, ◌∙◌}
use native.Mathlib.Omega.{arith}
use lib.Dec.{ltb}
use lib.ListN.{length, get_or}
use borrow.Author.Tests.{ltb-true}
use Rattle.types.specs.declared.error.Error.TheVariants as E
use Rattle.types.specs.Bits.{clear}
use Rattle.tape.specs.declared.rows.Row.{Row}
use Rattle.tape.specs.Pace.{Pace}
use Rattle.tape.specs.Pace.{Going, Stopped}
use Rattle.tape.specs.Pace.{Progress}
use Rattle.tape.specs.declared.script.Reading.TheVariants as Reading
use Rattle.tape.specs.Plan.{give, fail, handle, ensure, until, ◌then◌}
use Rattle.tape.specs.Polls.{leading}
use Rattle.tape.specs.Run.{State, at, After, over_at, run, does_at, Behind, Did, Gave}
use Rattle.tape.specs.Steps.{word}
use Rattle.tape.proofs.Behind.{long, at_place, in_place, out-of-place, further}
use Rattle.tape.proofs.Laws.{bind, refusal, from-going}
use Rattle.tape.proofs.Loops.{Turned, last_turn, out-of-turns}
use Rattle.tape.proofs.Took.{refuses}
use Rattle.tape.proofs.Polls.{on, counted-within, leads-within, leads, leads-to, skipped, reads}
use Rattle.bus.specs.Command.{poll_completion, wait_completion}
use Rattle.bus.proofs.command.wait_completion.Goals as goal

first_of : (a b : Bool) → (a && b) ≡ true → a ≡ true
first_of true b e = refl
first_of false b e = cc

second-of : (a b : Bool) → (a && b) ≡ true → b ≡ true
second-of true b e = e
second-of false b e = cc

-- one status word that is there and shows no lateness
polls : {s : List ℕ} {l : List Row} (p : Progress) (i : ℕ) → p.pace ≡ Going → p.used + i < length s → clear 0x4 (get_or s (p.used + i) 0) ≡ true
    → Gave s ℕ 0 poll_completion (at (on p i) l) (get_or s (p.used + i) 0) (at (on p (i + 1)) l)
unfolding poll_completion ensure handle run
polls {s} {l} p i going there intime =
    bind (λ w. ensure (clear 0x4 w) E.Timeout then λ _. give w) (reads Reading.Status p i going there) (from-going going (rw (intime, going)))

-- a status word that is late or completes, or is not there, ends the wait
poll_over : (mask : ℕ) {s : List ℕ} {l : List Row} {q : Progress} {v : ℕ} {w : State} → q.pace ≡ Going
    → (q.used < length s → (clear mask (get_or s q.used 0) && clear 0x4 (get_or s q.used 0)) ≡ false) → Gave s ℕ 0 poll_completion (at q l) v w
    → over_at w.progress.pace (not (clear mask v)) ≡ true
unfolding does_at run handle word ensure poll_completion over_at
poll_over mask {s} {l} {q} {v} {w} going is e =
    ap (λ (x : After ℕ). over_at x.state.progress.pace (not (clear mask x.value))) e.same
    ∙ by q.pace going (ltb q.used (length s)) refl (clear 0x4 (get_or s q.used 0)) refl
  where
    none : (b : Bool) → (b && true) ≡ false → not b ≡ true
    none true e = cc
    none false e = refl

    by : (a : Pace) → a ≡ Going → (b : Bool) → ltb q.used (length s) ≡ b → (c : Bool) → clear 0x4 (get_or s q.used 0) ≡ c
        → (let x = does_at s 0 a poll_completion (at q l) in over_at x.state.progress.pace (not (clear mask x.value)) ≡ true)
    by (Stopped x) g b t c k = cc
    by Going g true t true k = rw (t, k) (none (clear mask (get_or s q.used 0)) (rw k at (is (ltb-true q.used (length s) t))))
    by Going g true t false k = rw (t, k)
    by Going g false t c k = rw t

abbrev waiting : ℕ → ℕ → List ℕ → ℕ
waiting mask limit left = leading limit (λ w. clear mask w && clear 0x4 w) left

-- from a call that is going, after the polls that found nothing done and nothing wrong
module _ (mask limit : ℕ) {left s : List ℕ} {p q : Progress} {n : ℕ} (going : p.pace ≡ Going)
    (part : Behind p.used left s) (counted : n ≡ waiting mask limit left) (moved : q ≡ on p n) where
  turns : {l : List Row} → Turned s ℕ 0 poll_completion (λ w. not (clear mask w)) limit n (at p l) (at q l)
  turns =
      let most = leads-within (λ w. clear mask w && clear 0x4 w) limit left in
      rw (moved, counted)
      (skipped going (λ j. get_or s (p.used + j) 0) (waiting mask limit left) (omega (arith, most)) (λ j h.
      let like = leads (λ w. clear mask w && clear 0x4 w) limit left j h in (
        polls p j going (in_place part j (omega (arith, h, most))) (rw (at_place part j) (second-of (clear mask (get_or left j 0)) (clear 0x4 (get_or left j 0)) like)),
        ap not (ap (clear mask) (at_place part j) ∙ first_of (clear mask (get_or left j 0)) (clear 0x4 (get_or left j 0)) like),
      )))

  ends : n < limit → q.used < length s → (clear mask (get_or s q.used 0) && clear 0x4 (get_or s q.used 0)) ≡ false
  ends more there =
      let first = leads-to (λ w. clear mask w && clear 0x4 w) limit left (omega (arith, counted, more, out-of-place part n (rw moved at there))) in
      rw (moved, at_place part n) (rw (← counted) at first)

  found : {l : List Row} {v : ℕ} {r : Progress} → n < limit → Gave s ℕ 0 poll_completion (at q l) v (at r l)
      → Gave s ℕ 0 (until limit (λ w. not (clear mask w)) poll_completion) (at p l) v (at r l)
  found more e = last_turn turns more e (poll_over mask (rw moved going) (ends more) e)

  spent : {l : List Row} {r : Progress} → limit ≤ n → Did s (fail E.SoftwareTimeout) (at q l) (at r l)
      → Gave s ℕ 0 (until limit (λ w. not (clear mask w)) poll_completion) (at p l) 0 (at r l)
  spent out e = out-of-turns turns out (refusal e)

pub overflow_add-head : goal.overflow_add-head
overflow_add-head c = let part = long c.rest-left.ensures.part in
    omega (arith, counted-within _ c.args.limit c.rest-left.result.now c.quiet-waiting.ensures, part, c.requires, c.well_formed)

pub returns-then-waiting-limit : goal.returns-then-waiting-limit
unfolding wait_completion
returns-then-waiting-limit c = λ s l part. record {
  gave = found _ c.args.limit refl (further part c.requires.0 c.rest-left.ensures.part) c.quiet-waiting.ensures refl c.if-waiting-limit.true (c.poll_completion.ensures s l part).gave;
}

pub returns : goal.returns
unfolding wait_completion
returns c = λ s l part. record {
  gave = spent _ c.args.limit refl (further part c.requires.0 c.rest-left.ensures.part) c.quiet-waiting.ensures refl c.if-waiting-limit.false refuses.gave;
}
