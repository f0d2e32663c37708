-- A pen that writes nothing stays as it is; one text after another is both as one; and what a pen wrote is what the buffer
-- holds that it was made over.
use Prim.Native.Nat.{ℕ, min, ◌≤◌}
use mathlib.Core.List.{List, [], ◌++◌}
use mathlib.Core.Path.{◌≡◌, refl, ap, sym, ◌∙◌}
use mathlib.Core.HLevel.{Σ_prop_path}
use native.Mathlib.Omega.{arith}
use lib.ListN.{length}
use Rattle.std.specs.Borrow.{MutBor}
use Rattle.std.proofs.Math.Bridge.{le_prop}
use Rattle.text.proofs.Ink.{ink_append, next-append, nothing, and_then}
use Rattle.text.specs.Ink.{Laid, inked, next}
use Rattle.text.specs.Pens.{written}
use Rattle.text.specs.declared.pen.Pen.{Pen}

-- pens are the same that hold the same and stand at one place
pub same_pen : {p q : Pen} → p.out ≡ q.out → p.at ≡ q.at → p ≡ q
same_pen {p} {q} e f =
    let pairs : ◌≡◌ {A = (x : MutBor (List ℕ) × ℕ) × (x.1 ≤ length x.0.now)} ((p.out, p.at), p.within) ((q.out, q.at), q.within) =
    Σ_prop_path (λ x. le_prop) (λ i. (e i, f i)) in
    λ i. record { out = (pairs i).0.0; at = (pairs i).0.1; within = (pairs i).1 }

-- the same, where what they hold differs in what it shows at most
pub written_as : {text : List ℕ} (p : Pen) {q : Pen} → q.out ≡ record p.out { now = q.out.now } → Laid p.at text p.out.now q.at q.out.now → q ≡ written text p
unfolding written
written_as p e l = same_pen (e ∙ ap (λ (xs : List ℕ). record p.out { now = xs }) l.laid) l.placed

pub written_nothing : (pen : Pen) → written [] pen ≡ pen
written_nothing pen = let inside = pen.within in sym (written_as pen refl (nothing (omega arith)))

laid_in : {text buffer : List ℕ} (pen : Pen) → pen.out.now ≡ buffer → Laid pen.at text buffer (written text pen).at (written text pen).out.now
unfolding written
laid_in {text} pen h =
    record { placed = ap (λ (b : List ℕ). next pen.at text b) h; laid = ap (λ (b : List ℕ). inked pen.at text b) h }

pub written_append : (us vs : List ℕ) (pen : Pen) → written (us ++ vs) pen ≡ written vs (written us pen)
unfolding written
written_append us vs pen = same_pen (ap (λ (xs : List ℕ). record pen.out { now = xs }) (sym (ink_append pen.at us vs pen.out.now))) (sym (next-append pen.at us vs pen.out.now))

pub same_buffer : (text : List ℕ) (pen : Pen) → (written text pen).out.ghost_name ≡ pen.out.ghost_name
unfolding written
same_buffer text pen = refl

-- a pen was made over a buffer at a place, and wrote a text
pub made_over : {at : ℕ} {text buffer after : List ℕ} (start : Pen) {end : Pen} → start.at ≡ min at (length buffer) → start.out.now ≡ buffer → end ≡ written text start → after ≡ end.out.now → Laid at text buffer end.at after
made_over {at} {text} {buffer} start p h w e =
    rw (e, w) (and_then (nothing p) (laid_in start h))

-- the same, of what two writings ensure
pub and_written : (us vs : List ℕ) (before : Pen) {between after : Pen} → between ≡ written us before → after ≡ written vs between → after ≡ written (us ++ vs) before
and_written us vs before p q = q ∙ ap (λ (b : Pen). written vs b) p ∙ sym (written_append us vs before)

-- what texts that pens write one after the other need, for `using(..)`
pub ruleset writing = (written_append, written_nothing)
