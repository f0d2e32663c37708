-- A call on its way, with what was told of it: what the turns from there on lay down is what all of them do from its start.
use Prim.Native.Nat.{ℕ, suc}
use mathlib.Core.Bool.{true, false}
use mathlib.Core.List.{List, []}
use mathlib.Core.Path.{◌≡◌, refl, ap, sym, ◌∙◌}
use Rattle.tape.specs.declared.rows.Row.{Row}
use Rattle.host.specs.declared.host.Called.{Called}
use Rattle.host.specs.Calls.{called_of}
use Rattle.step.specs.Next.{Lent}
use Rattle.underway.specs.declared.call.Call.{Call}
use Rattle.underway.specs.Under.{under}
use Rattle.feed.specs.declared.turn.Feeding.{Feeding}
use Rattle.feed.specs.declared.turn.Turn.{Turn}
use Rattle.feed.specs.Runs.{next_span}
use Rattle.feed.specs.Turns.{Way, Turned, starts, way_of, turn_of, turned_of, lent, taken_at, handed_at, fed_from, goes_on, called_at}
use Rattle.feed.proofs.Fed.{turn-keeps, turn-fewer, turn-left, turn-closes}
use Rattle.telling.specs.Told.{Leaf, evented, turns_on, events_of}

module _ (s : List ℕ) where
  module _ (w : Way) (l : List Row) (p : Leaf) where
    abbrev next : Turned
    next = turn_of s w l

    turn-goes : goes_on next.event ≡ true → events_of s next.next next.list (evented next.event p) ≡ events_of s w l p
    unfolding turns_on
    turn-goes e =
        ap (λ (k : ℕ). turns_on s k next.next next.list (evented next.event p)) (sym (turn-fewer s w l e))
        ∙ sym (rw e refl)

    turn-ends : goes_on next.event ≡ false → evented next.event p ≡ events_of s w l p
    unfolding turns_on
    turn-ends e = sym (rw e refl)

  -- `sent` are its words to send, and `taken` the data words handed out so far
  pub record Telling (sent : List ℕ) (w₀ : Way) (l₀ : List Row) (p₀ : Leaf) (f : Feeding) (l : List Row) (p : Leaf) : Type 0 where
    pub taken : List ℕ
    pub fed : fed_from s (way_of (lent sent taken) f) l ≡ fed_from s w₀ l₀
    pub told : events_of s (way_of (lent sent taken) f) l p ≡ events_of s w₀ l₀ p₀

  pub starts-telling : (sent : List ℕ) (f : Feeding) (l : List Row) (p : Leaf) → Telling sent (way_of (lent sent []) f) l p f l p
  starts-telling sent f l p = record { taken = []; fed = refl; told = refl }

  module _ {sent : List ℕ} {w₀ : Way} {l₀ : List Row} {p₀ : Leaf} {f : Feeding} {l : List Row} {p : Leaf} (x : Telling sent w₀ l₀ p₀ f l p) (t : Turn) (l' : List Row)
      (is : (taken : List ℕ) → turned_of (lent sent taken) t l' ≡ turn_of s (way_of (lent sent taken) f) l) where
    abbrev g : Lent
    g = lent sent x.taken

    abbrev was : turned_of g t l' ≡ turn_of s (way_of g f) l
    was = is x.taken

    same : goes_on (turn_of s (way_of g f) l).event ≡ goes_on t.event
    same = sym (ap (λ (t : Turned). goes_on t.event) was)

    pub goes-telling : {p' : Leaf} → p' ≡ evented t.event p → goes_on t.event ≡ true → Telling sent w₀ l₀ p₀ t.feeding l' p'
    goes-telling tells e =
        record {
          taken = taken_at t.event x.taken;
          fed = ap (λ (t : Turned). fed_from s t.next t.list) was ∙ turn-keeps s (way_of g f) l (same ∙ e) ∙ x.fed;
          told =
              ap (λ (q : Leaf). events_of s (turned_of g t l').next l' q) tells
              ∙ ap (λ (t : Turned). events_of s t.next t.list (evented t.event p)) was
              ∙ turn-goes (way_of g f) l p (same ∙ e)
              ∙ x.told;
        }

    -- and one turn fewer is left
    pub goes-less : goes_on t.event ≡ true
        → next_span s (under (lent sent []) f.call).ahead f.used ≡ suc (next_span s (under (lent sent []) t.feeding.call).ahead t.feeding.used)
    goes-less e = turn-left s f t sent x.taken l l' was e

    pub ends-telling : {p' : Leaf} → p' ≡ evented t.event p → goes_on t.event ≡ false → p' ≡ events_of s w₀ l₀ p₀
    ends-telling tells e =
        tells ∙ ap (λ (t : Turned). evented t.event p) was ∙ turn-ends (way_of g f) l p (same ∙ e) ∙ x.told

    pub ends-called : goes_on t.event ≡ false → {c : Called} → ((g : Lent) → c ≡ called_at (way_of g t.feeding))
        → c ≡ called_of (fed_from s w₀ l₀)
    ends-called e told =
        told (handed_at t.event g)
        ∙ ap (λ (t : Turned). called_at t.next) was
        ∙ turn-closes s (way_of g f) l (same ∙ e)
        ∙ ap called_of x.fed

  -- a call that was begun and has had its last turn
  module _ {sent : List ℕ} {call : Call} {f₀ f : Feeding} {l₀ l : List Row} {p₀ p : Leaf} (begun : f₀ ≡ record { call = call; used = 0; rows = 0; place = 0 })
      (x : Telling sent (way_of (lent sent []) f₀) l₀ p₀ f l p) (t : Turn) (l' : List Row) (is : (taken : List ℕ) → turned_of (lent sent taken) t l' ≡ turn_of s (way_of (lent sent taken) f) l)
      (off : goes_on t.event ≡ false) where
    pub all-called : {c : Called} → ((g : Lent) → c ≡ called_at (way_of g t.feeding)) → c ≡ called_of (fed_from s (starts (under (lent sent []) call)) l₀)
    all-called told = ends-called x t l' is off told ∙ ap (λ (f : Feeding). called_of (fed_from s (way_of (lent sent []) f) l₀)) begun

    pub all_told : {p' : Leaf} → p' ≡ evented t.event p → p' ≡ events_of s (starts (under (lent sent []) call)) l₀ p₀
    all_told tells = ends-telling x t l' is tells off ∙ ap (λ (f : Feeding). events_of s (way_of (lent sent []) f) l₀ p₀) begun
