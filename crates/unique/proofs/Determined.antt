-- THE LEMMA that each function's line is by: what equals one definition, whichever outcome it is read off, is the same of any
-- two.
use Prim.Native.Nat.{ℕ}
use mathlib.Core.Path.{◌≡◌, refl, sym, ◌∙◌}
use mathlib.Core.List.{List, [], ◌∷◌}
use contract.Lifetimes.{Lfts}
use denote.Exit.{Exit, unchanged, leaves, Last}
use denote.RattleType.{Denots}
use denote.Signature.{Slot, types_at}
use denote.Triple.End.{Kepts, Fins}
use borrow.Fn.Kind.{ParamKind, ResultKind}
use borrow.Fn.Kinds.{Out, Dens, res_t, slots, kepts}
use Rattle.unique.specs.Unique.{Outcome, Allows, Unique, UniqueIn}

pub part-determined : {n : ℕ} {ps : List (ParamKind n)} {r : ResultKind n} {Learnt : Out n ps r} {X : (κs : Lfts n) → Dens κs ps → Type 0}
    {part : (κs : Lfts n) (a : Dens κs ps) → Outcome ps r κs a → X κs a} (d : (κs : Lfts n) (a : Dens κs ps) → X κs a)
    → ((κs : Lfts n) (a : Dens κs ps) (x : Outcome ps r κs a) → Allows ps r Learnt κs a x → part κs a x ≡ d κs a)
    → UniqueIn ps r Learnt part
part-determined d e = record { same = λ κs a x y p q. e κs a x p ∙ sym (e κs a y q) }

-- An outcome has a place for each parameter. It is told without those that have no last value: the last values in order, and
-- then the result.

-- one parameter's, before what follows
abbrev With : {D : Type 0} → Exit D → D → Type 0 → Type 0
With unchanged x R = R
With (leaves L l S s some) x R = L x × R

abbrev with : {D R : Type 0} (e : Exit D) (x : D) → Last e x → R → With e x R
with unchanged x w z = z
with (leaves L l S s some) x w z = (w, z)

with-parts : {D R : Type 0} (e : Exit D) (x : D) (w w' : Last e x) (z z' : R) → with e x w z ≡ with e x w' z' → (w ≡ w') × (z ≡ z')
with-parts unchanged x w w' z z' p = (refl, p)
with-parts (leaves L l S s some) x w w' z z' p = (λ i. (p i).0, λ i. (p i).1)

module _ {n : ℕ} (κs : Lfts n) (R : Type 0) where
  abbrev pub Told : (ss : List (Slot n)) (ks : Kepts ss) → Denots (types_at ss κs) → Type 0
  Told [] ks a = R
  Told (s ∷ ss) ks a = With ((s.row κs).exit ks.0) a.0 (Told ss ks.1 a.1)

  abbrev pub told : (ss : List (Slot n)) (ks : Kepts ss) (a : Denots (types_at ss κs)) → R → Fins κs ss ks a → Told ss ks a
  told [] ks a z ws = z
  told (s ∷ ss) ks a z ws = with ((s.row κs).exit ks.0) a.0 ws.0 (told ss ks.1 a.1 z ws.1)

  told-parts : (ss : List (Slot n)) (ks : Kepts ss) (a : Denots (types_at ss κs)) (z z' : R) (ws ws' : Fins κs ss ks a)
      → told ss ks a z ws ≡ told ss ks a z' ws' → (z ≡ z') × (ws ≡ ws')
  told-parts [] ks a z z' ws ws' p = (p, refl)
  told-parts (s ∷ ss) ks a z z' ws ws' p =
      let rest = told ss ks.1 a.1 z ws.1 in
      let rest' = told ss ks.1 a.1 z' ws'.1 in
      let first = with-parts ((s.row κs).exit ks.0) a.0 ws.0 ws'.0 rest rest' p in
      let others = told-parts ss ks.1 a.1 z z' ws.1 ws'.1 first.1 in
      (others.0, λ i. (first.0 i, others.1 i))

abbrev pub ToldOf : {n : ℕ} (ps : List (ParamKind n)) (r : ResultKind n) (κs : Lfts n) → Dens κs ps → Type 0
ToldOf ps r κs a = Told κs (res_t r κs).Denot (slots ps) (kepts ps) a

abbrev pub told_of : {n : ℕ} (ps : List (ParamKind n)) (r : ResultKind n) (κs : Lfts n) (a : Dens κs ps) → Outcome ps r κs a → ToldOf ps r κs a
told_of ps r κs a x = told κs (res_t r κs).Denot (slots ps) (kepts ps) a x.0 x.1

-- An outcome, told so, equals a definition: in a function's line each part of it by the clause that says it. The definition is
-- read off the clauses, so the line leaves it out.
pub determined : {n : ℕ} {ps : List (ParamKind n)} {r : ResultKind n} {Learnt : Out n ps r} (d : (κs : Lfts n) (a : Dens κs ps) → ToldOf ps r κs a)
    → ((κs : Lfts n) (a : Dens κs ps) (x : Outcome ps r κs a) → Allows ps r Learnt κs a x → told_of ps r κs a x ≡ d κs a)
    → Unique ps r Learnt
determined {n} {ps} {r} {Learnt} d e =
    let told_same : UniqueIn ps r Learnt (told_of ps r) = part-determined d e in
    record {
      same = λ κs a x y p q.
          let parts = told-parts κs (res_t r κs).Denot (slots ps) (kepts ps) a x.0 y.0 x.1 y.1 (told_same.same κs a x y p q) in
          λ i. (parts.0 i, parts.1 i);
    }
