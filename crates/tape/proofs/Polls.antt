-- Polls that are no end of a wait are turns of its loop, and may be counted in one go.
use Prim.Native.Nat.{ℕ, zero, suc, ◌+◌, ◌-◌, ◌≤◌, ◌<◌, min}
use mathlib.Core.Path.{◌≡◌, refl, ap, sym, ◌∙◌}
use mathlib.Core.Bool.{Bool, true, false, cond}
use mathlib.Core.List.{List, [], ◌∷◌}
use native.Mathlib.Nat.{add-zero}
use native.Mathlib.Omega.{arith}
use lib.ListN.{length, get_or, take, drop, length-drop}
use lib.Seq.{drop-cons, get_or-take, length-take-le}
use lib.Dec.{ltb}
use borrow.Author.Tests.{lt-ltb, ltb-true}
use Rattle.tape.specs.Pace.{Pace}
use Rattle.tape.specs.Pace.{Going, Stopped}
use Rattle.tape.specs.Pace.{Progress}
use Rattle.tape.specs.declared.rows.Row.{Row}
use Rattle.tape.specs.declared.script.Reading.{Reading}
use Rattle.tape.specs.Plan.{Plan}
use Rattle.tape.specs.Polls.{leading}
use Rattle.tape.specs.Run.{State, at, After, over_at, run, does_at, Behind, Gave}
use Rattle.tape.specs.Steps.{word}
use Rattle.tape.proofs.Behind.{at_place, in_place}
use Rattle.tape.proofs.Laws.{from-going}
use Rattle.tape.proofs.Loops.{Turned, no_turn, next-turn}

-- the first i of the words are like this: what is left to count is what was to count
pub record Led (like : ℕ → Bool) (n : ℕ) (ws : List ℕ) (i : ℕ) : Type 0 where
  pub within : i ≤ min n (length ws)
  pub whole : i + leading (n - i) like (drop i ws) ≡ leading n like ws

module _ {like : ℕ → Bool} {n : ℕ} {ws : List ℕ} where
  module _ {i : ℕ} (t : Led like n ws i) where
    module _ (more : i < min n (length ws)) where
      left : n - i ≡ suc (n - (i + 1))
      left = omega (arith, more)

      there : drop i ws ≡ get_or ws i 0 ∷ drop (i + 1) ws
      there =
          let next : suc i ≡ i + 1 = omega arith in
          drop-cons ws i 0 (omega (arith, more)) ∙ ap (λ (k : ℕ). get_or ws i 0 ∷ drop k ws) next

      one_led : like (get_or ws i 0) ≡ true → Led like n ws (i + 1)
      unfolding leading
      one_led is = record { within = omega (arith, more); whole = omega (arith, rw (left, there, is) at t.whole) }

      led_to : like (get_or ws i 0) ≡ false → i ≡ leading n like ws
      unfolding leading
      led_to is = omega (arith, rw (left, there, is) at t.whole)

    all_led : min n (length ws) ≤ i → i ≡ leading n like ws
    unfolding leading
    all_led over = omega (arith, t.whole, none (n - i) (drop i ws) (omega (arith, over, length-drop i ws)))
      where
        none : (m : ℕ) (vs : List ℕ) → min m (length vs) ≤ 0 → leading m like vs ≡ 0
        none zero vs h = refl
        none (suc m) [] h = refl
        none (suc m) (v ∷ vs) h = absurd (omega (arith, h))

  -- by a loop over the words in front, of which there are m
  module _ {m : ℕ} (most : m ≡ min n (length ws)) where
    module _ {i : ℕ} (t : Led like n ws i) (here : i < length (take m ws)) where
      below : i < m
      below = let all = length-take-le m ws (omega (arith, most)) in rw all at here

      same : like (get_or ws i 0) ≡ like (get_or (take m ws) i 0)
      same = ap like (sym (get_or-take m ws i 0 below))

      pub one-more-led : like (get_or (take m ws) i 0) ≡ true → Led like n ws (i + 1)
      one-more-led is = one_led t (omega (arith, below, most)) (same ∙ is)

      pub led-to-one : like (get_or (take m ws) i 0) ≡ false → i ≡ leading n like ws
      led-to-one is = led_to t (omega (arith, below, most)) (same ∙ is)

    pub led-to-the-end : {i : ℕ} → Led like n ws i → length (take m ws) ≤ i → m ≡ leading n like ws
    led-to-the-end {i} t over =
        let all = length-take-le m ws (omega (arith, most)) in
        let past : m ≤ i = rw all at over in
        let end : m ≡ i = omega (arith, t.within, past, most) in
        end ∙ all_led t (omega (arith, past, most))

-- What the words that lead are like, and the first that does not.

pub leads-within : (like : ℕ → Bool) (n : ℕ) (ws : List ℕ) → leading n like ws ≤ min n (length ws)
unfolding leading
leads-within like zero ws = omega arith
leads-within like (suc n) [] = omega arith
leads-within like (suc n) (w ∷ ws) = by (like w) (leads-within like n ws)
  where
    by : (b : Bool) → leading n like ws ≤ min n (length ws) → cond b (suc (leading n like ws)) 0 ≤ min (suc n) (suc (length ws))
    by true h = omega (arith, h)
    by false h = omega arith

pub counted-within : (like : ℕ → Bool) (limit : ℕ) (ws : List ℕ) {n : ℕ} → n ≡ leading limit like ws → n ≤ min limit (length ws)
counted-within like limit ws e = omega (arith, e, leads-within like limit ws)

pub leads : (like : ℕ → Bool) (n : ℕ) (ws : List ℕ) (j : ℕ) → j < leading n like ws → like (get_or ws j 0) ≡ true
unfolding leading
leads like zero ws j h = absurd (omega (arith, h))
leads like (suc n) [] j h = absurd (omega (arith, h))
leads like (suc n) (w ∷ ws) j h = by (leads like n ws) (like w) refl j h
  where
    by : ((k : ℕ) → k < leading n like ws → like (get_or ws k 0) ≡ true) → (b : Bool) → like w ≡ b
        → (k : ℕ) → k < cond b (suc (leading n like ws)) 0 → like (get_or (w ∷ ws) k 0) ≡ true
    by rest true is zero h = is
    by rest true is (suc k) h = rest k (omega (arith, h))
    by rest false is k h = absurd (omega (arith, h))

pub leads-to : (like : ℕ → Bool) (n : ℕ) (ws : List ℕ) → leading n like ws < min n (length ws) → like (get_or ws (leading n like ws) 0) ≡ false
unfolding leading
leads-to like zero ws h = absurd (omega (arith, h))
leads-to like (suc n) [] h = absurd (omega (arith, h))
leads-to like (suc n) (w ∷ ws) h = by (leads-to like n ws) (like w) refl h
  where
    by : (leading n like ws < min n (length ws) → like (get_or ws (leading n like ws) 0) ≡ false) → (b : Bool) → like w ≡ b
        → cond b (suc (leading n like ws)) 0 < min (suc n) (suc (length ws))
        → like (get_or (w ∷ ws) (cond b (suc (leading n like ws)) 0) 0) ≡ false
    by rest true is h = rest (omega (arith, h))
    by rest false is h = is

-- so many words further
abbrev pub on : Progress → ℕ → Progress
on p i = record { pace = p.pace; used = p.used + i; rows = p.rows; line = p.line }

-- turns of which none was enough
module _ {s : List ℕ} {l : List Row} {A : Type 0} {d : A} {body : Plan A} {enough : A → Bool} {limit : ℕ} {p : Progress} (going : p.pace ≡ Going) where
  pub skipped : (v : ℕ → A) (i : ℕ) → i ≤ limit
      → ((j : ℕ) → j < i → Gave s A d body (at (on p j) l) (v j) (at (on p (j + 1)) l) × (enough (v j) ≡ false))
      → Turned s A d body enough limit i (at p l) (at (on p i) l)
  unfolding over_at
  skipped v zero h turns = rw add-zero no_turn
  skipped v (suc i) h turns =
      let next : i + 1 ≡ suc i = omega arith in
      let one = turns i (omega arith) in
      rw next at
      (next-turn (skipped v i (omega arith) (λ j below. turns j (omega arith))) (omega arith) one.0 (rw going one.1))

-- a word that is there, read by a call that is going
pub reads : (kind : Reading) {s : List ℕ} {l : List Row} (p : Progress) (i : ℕ) → p.pace ≡ Going → p.used + i < length s
    → Gave s ℕ 0 (word kind) (at (on p i) l) (get_or s (p.used + i) 0) (at (on p (i + 1)) l)
unfolding run word
reads kind p i going there =
    let further : p.used + i + 1 ≡ p.used + (i + 1) = omega arith in
    from-going going (rw (lt-ltb _ _ there, further, going))

-- a reading that must be enough where there is a word
pub read-over : (kind : Reading) (enough : ℕ → Bool) {s : List ℕ} {l : List Row} {q : Progress} {v : ℕ} {w : State} → q.pace ≡ Going
    → (q.used < length s → enough (get_or s q.used 0) ≡ true) → Gave s ℕ 0 (word kind) (at q l) v w
    → over_at w.progress.pace (enough v) ≡ true
unfolding does_at run word over_at
read-over kind enough {s} {l} {q} {v} {w} going is e =
    ap (λ (x : After ℕ). over_at x.state.progress.pace (enough x.value)) e.same ∙ by q.pace going (ltb q.used (length s)) refl
  where
    by : (a : Pace) → a ≡ Going → (b : Bool) → ltb q.used (length s) ≡ b
        → (let x = does_at s 0 a (word kind) (at q l) in over_at x.state.progress.pace (enough x.value) ≡ true)
    by (Stopped x) g b t = cc
    by Going g true t = rw (t, is (ltb-true _ _ t))
    by Going g false t = rw t

-- readings of one word, as many as lead
pub read-turns : (kind : Reading) (like enough : ℕ → Bool) (limit : ℕ) {rest s : List ℕ} {l : List Row} {p : Progress} → p.pace ≡ Going → Behind p.used rest s
    → ((w : ℕ) → like w ≡ true → enough w ≡ false)
    → Turned s ℕ 0 (word kind) enough limit (leading limit like rest) (at p l) (at (on p (leading limit like rest)) l)
read-turns kind like enough limit {rest} {s} {l} {p} going part away =
    let most = leads-within like limit rest in
    skipped going (λ j. get_or s (p.used + j) 0) (leading limit like rest) (omega (arith, most)) (λ j h. (
      reads kind p j going (in_place part j (omega (arith, h, most))),
      away _ (rw (at_place part j) (leads like limit rest j h)),
    ))
