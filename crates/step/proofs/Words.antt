-- The data words of a transfer, as they come: each stands behind those before it.
use Prim.Native.Nat.{ℕ, zero, suc, ◌+◌, ◌<◌, ◌≤◌}
use mathlib.Core.Path.{◌≡◌, refl, ap, sym}
use mathlib.Core.List.{List, [], ◌∷◌, ◌++◌, append_assoc}
use native.Mathlib.Omega.{arith}
use lib.ListN.{take, set, length, length-append, length-take}
use borrow.Author.Tests.{lt-ltb}
use lib.Seq.{take_all}
use Rattle.tape.specs.declared.script.Reading.{Reading}
use Rattle.tape.specs.Plan.{Plan, give, refuse, read, write, look, hold, handle}
use Rattle.step.specs.Next.{Lent, Handed, HandedBy, handed_to, handed}
use Rattle.step.specs.Transfer.{blocks_of, transfer_of, place_of, put_at}
use Rattle.step.specs.declared.wants.Wants.{Wants}
use Rattle.step.specs.declared.wants.Wants.TheVariants as Wa
use Rattle.step.specs.declared.phase.Phase.{Phase}
use Rattle.step.specs.declared.phase.Phase.TheVariants as P

-- words in front of words, and what is made of them
pub appends : (f : List ℕ → List ℕ) (ws : List ℕ) (w : ℕ) (p : Plan (List ℕ))
    → handle (λ rest. give (f (ws ++ rest))) refuse (handle (λ rest. give (w ∷ rest)) refuse p)
    ≡ handle (λ rest. give (f ((ws ++ (w ∷ [])) ++ rest))) refuse p
unfolding handle
appends f ws w (give a) = ap (λ (l : List ℕ). give (f l)) (sym (append_assoc ws (w ∷ []) a))
appends f ws w (refuse c) = refl
appends f ws w (read r k z) = λ i. read r (λ v. appends f ws w (k v) i) (appends f ws w z i)
appends f ws w (write r p) = ap (write r) (appends f ws w p)
appends f ws w (look k) = λ i. look (λ h. appends f ws w (k h) i)
appends f ws w (hold h p) = ap (hold h) (appends f ws w p)

pub then_give : {A : Type 0} (p : Plan A) → handle give refuse p ≡ p
unfolding handle
then_give (give a) = refl
then_give (refuse c) = refl
then_give (read r k z) = λ i. read r (λ v. then_give (k v) i) (then_give z i)
then_give (write r p) = ap (write r) (then_give p)
then_give (look k) = λ i. look (λ h. then_give (k h) i)
then_give (hold h p) = ap (hold h) (then_give p)

-- the words up to place k, and one more
pub one_more : (k w : ℕ) (g : List ℕ) → take (k + 1) (take k g ++ (w ∷ [])) ≡ take k g ++ (w ∷ [])
one_more k w g = take_all (k + 1) (take k g ++ (w ∷ [])) (simp (length-append, length-take) (omega arith))

-- a word set at its place
pub held_more : (k w : ℕ) (held : List ℕ) → k < length held → take (k + 1) (set held k w) ≡ take k held ++ (w ∷ [])
held_more zero w [] h = absurd (not_lt h)
  where
    not_lt : 0 < 0 → ⊥
    not_lt h = omega arith
held_more zero w (x ∷ xs) h = refl
held_more (suc k) w [] h = absurd (not_lt h)
  where
    not_lt : suc k < 0 → ⊥
    not_lt h = omega arith
held_more (suc k) w (x ∷ xs) h =
    let e : suc k + 1 ≡ suc (k + 1) = omega arith in
    rw e (ap (λ l. x ∷ l) (held_more k w xs (omega arith)))

-- `handed` is one way to hand them out
pub is-handed : (r : Reading) (w : ℕ) (g : Lent) → Handed r w g (handed r w g)
unfolding Handed handed_to
is-handed Reading.Status w g = refl
is-handed Reading.RespCmd w g = refl
is-handed (Reading.Response i) w g = refl
is-handed Reading.Dma w g = refl
is-handed Reading.DCount w g = refl
is-handed (Reading.Data k) w g = (refl, one_more k w g.taken)

-- a transfer has words
pub some_words : (p : Phase) → 1 ≤ (transfer_of p).words
unfolding transfer_of blocks_of
some_words P.Scr = omega arith
some_words P.Check = omega arith
some_words P.Switch = omega arith
some_words P.Status = omega arith
some_words (P.Blocks a n) = omega arith
some_words (P.Sends a n) = omega arith

-- a place is one of the transfer's
pub place-fits : (p : Phase) (m : ℕ) → place_of p m < (transfer_of p).words
place-fits p m = let some = some_words p in omega arith

-- a word that is kept, and one that was handed out
pub put_more : (held : List ℕ) (k w : ℕ) → k < 16 → length held ≡ 16 → take (k + 1) (put_at held k w) ≡ take k held ++ (w ∷ [])
unfolding put_at
put_more held k w small long = rw (lt-ltb _ _ small) (held_more k w held (omega arith))

-- what is to be sent stays
pub handed-sent : (v : Wants) (w : ℕ) (g g' : Lent) → HandedBy v w g g' → g'.sent ≡ g.sent
unfolding HandedBy Handed
handed-sent (Wa.Read Reading.Status) w g g' e = ap (λ (l : Lent). l.sent) e
handed-sent (Wa.Read Reading.RespCmd) w g g' e = ap (λ (l : Lent). l.sent) e
handed-sent (Wa.Read (Reading.Response i)) w g g' e = ap (λ (l : Lent). l.sent) e
handed-sent (Wa.Read Reading.Dma) w g g' e = ap (λ (l : Lent). l.sent) e
handed-sent (Wa.Read Reading.DCount) w g g' e = ap (λ (l : Lent). l.sent) e
handed-sent (Wa.Read (Reading.Data k)) w g g' e = e.0
handed-sent (Wa.Write r) w g g' e = ap (λ (l : Lent). l.sent) e
handed-sent (Wa.Send k) w g g' e = ap (λ (l : Lent). l.sent) e
handed-sent Wa.Nothing w g g' e = ap (λ (l : Lent). l.sent) e
