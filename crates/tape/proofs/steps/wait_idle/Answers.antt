use Prim.Native.Nat.{ℕ, ◌≤◌, ◌<◌}
use mathlib.Core.Bool.{Bool, true, false, not}
use mathlib.Core.List.{List}
use mathlib.Core.Path.{◌≡◌, refl}
use native.Mathlib.Omega.{arith}
use lib.ListN.{length, get_or}
use Rattle.types.specs.Bits.{clear}
use Rattle.types.specs.declared.error.Error.TheVariants.{SoftwareTimeout}
use Rattle.tape.specs.Pace.{Going}
use Rattle.tape.specs.Pace.{Progress}
use Rattle.tape.specs.declared.rows.Row.{Row}
use Rattle.tape.specs.declared.script.Reading.TheVariants.{Status}
use Rattle.tape.specs.Plan.{fail}
use Rattle.tape.specs.Run.{at, Behind, Did, Gave}
use Rattle.tape.specs.Polls.{leading}
use Rattle.tape.specs.Steps.{word, idle_mask, wait_idle}
use Rattle.tape.proofs.Behind.{at_place, out-of-place}
use Rattle.tape.proofs.Laws.{refusal, forget}
use Rattle.tape.proofs.Took.{passed, refuses}
use Rattle.tape.proofs.Loops.{Turned, last_turn, out-of-turns}
use Rattle.tape.proofs.Polls.{on, counted-within, leads-to, read-turns, read-over}
use Rattle.tape.proofs.steps.wait_idle.Goals as goal

-- a word with a bit of the mask, and one with none
away : (b : Bool) → not b ≡ true → b ≡ false
away true e = cc
away false e = refl

home : (b : Bool) → not b ≡ false → b ≡ true
home true e = refl
home false e = cc

abbrev busy : Bool → ℕ → List ℕ → ℕ
busy «data» limit rest = leading limit (λ w. not (clear (idle_mask «data») w)) rest

-- from a call that is going, after the polls that found the controller busy
module _ («data» : Bool) (limit : ℕ) {rest s : List ℕ} {p q : Progress} {n : ℕ} (going : p.pace ≡ Going)
    (part : Behind p.used rest s) (counted : n ≡ busy «data» limit rest) (moved : q ≡ on p n) where
  turns : {l : List Row} → Turned s ℕ 0 (word Status) (clear (idle_mask «data»)) limit n (at p l) (at q l)
  turns = rw (moved, counted) (read-turns Status (λ w. not (clear (idle_mask «data») w)) (clear (idle_mask «data»)) limit going part (λ w e. away _ e))

  -- the next word finds it idle
  idle : n < limit → q.used < length s → clear (idle_mask «data») (get_or s q.used 0) ≡ true
  idle more there =
      let first = leads-to (λ w. not (clear (idle_mask «data») w)) limit rest (omega (arith, counted, more, out-of-place part n (rw moved at there))) in
      rw (moved, at_place part n) (home _ (rw (← counted) at first))

  found : {v : ℕ} {l : List Row} {r : Progress} → n < limit → Gave s ℕ 0 (word Status) (at q l) v (at r l) → Did s (wait_idle limit «data») (at p l) (at r l)
  unfolding wait_idle
  found more e = forget (last_turn turns more e (read-over Status (clear (idle_mask «data»)) (rw moved going) (idle more) e))

  spent : {l : List Row} {r : Progress} → limit ≤ n → Did s (fail SoftwareTimeout) (at q l) (at r l) → Did s (wait_idle limit «data») (at p l) (at r l)
  unfolding wait_idle
  spent out e = forget (out-of-turns turns out (refusal e))

pub overflow_add-head : goal.overflow_add-head
overflow_add-head c = omega (arith, counted-within _ c.args.limit c.args.rest.now c.busy-busy.ensures, c.requires)

pub returns-in_err-read_word : goal.returns-in_err-read_word
returns-in_err-read_word c = λ s l part. passed c.from_residual.ensures.1 (record {
  gave = found c.args.data c.args.limit refl part (rw c.idle_mask.ensures at c.busy-busy.ensures) refl c.if-busy-limit.true (c.in_err-read_word.ensures Status s l part).gave;
})

pub returns-then-busy-limit : goal.returns-then-busy-limit
returns-then-busy-limit c = λ s l part. record {
  gave = found c.args.data c.args.limit refl part (rw c.idle_mask.ensures at c.busy-busy.ensures) refl c.if-busy-limit.true (c.in_ok-read_word.ensures Status s l part).gave;
}

pub returns : goal.returns
returns c = λ s l part. record {
  gave = spent c.args.data c.args.limit refl part (rw c.idle_mask.ensures at c.busy-busy.ensures) refl c.if-busy-limit.false refuses.gave;
}
