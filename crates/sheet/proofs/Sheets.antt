-- Where a line goes, and that a short one stands there whole.
use Prim.Native.Nat.{ℕ, ◌+◌, ◌-◌, ◌≤◌, ◌<◌}
use mathlib.Core.List.{List, ◌++◌}
use mathlib.Core.Logic.{⊎_elim}
use mathlib.Core.Path.{◌≡◌, refl, sym}
use native.Mathlib.Omega.{arith}
use lib.ListN.{length, take, drop, length-append}
use lib.Seq.{take_all, take_at, length-take-le}
use borrow.Author.Tests.{le-leb, lt-leb}
use Rattle.std.specs.Prelude.{IsOk}
use Rattle.text.specs.Ink.{Laid, inked, next}
use Rattle.text.proofs.Orders.{either}
use Rattle.sheet.specs.declared.sheet.Sheet.{Sheet}
use Rattle.sheet.specs.Sheet.{Fits, place_for, Tells}

pub behind : (size at : ℕ) → 512 ≤ size - at → at ≡ place_for size at
unfolding place_for
behind size at h = rw (le-leb 512 (size - at) h) refl

pub anew : (size at : ℕ) → size - at < 512 → 0 ≡ place_for size at
unfolding place_for
anew size at h = rw (lt-leb 512 (size - at) h) refl

-- so there is room for it
room : (size at : ℕ) → 512 ≤ size → place_for size at + 512 ≤ size
room size at h =
    ⊎_elim (λ (k : 512 ≤ size - at). rw (sym (behind size at k)) (omega (arith, k)))
    (λ (k : size - at < 512). rw (sym (anew size at k)) (omega (arith, h)))
    (either 512 (size - at))

-- a text that fits is laid in whole
stands : {at : ℕ} {text before : List ℕ} {place : ℕ} {after : List ℕ} → Laid at text before place after → at + length text ≤ length before → take place after ≡ take at before ++ text
unfolding inked next
stands {at} {text} {before} {place} {after} laid h =
    let same : place ≡ at + length text = omega (arith, laid.placed, h) in
    let all : take (length before - at) text ≡ text = take_all (length before - at) text (omega (arith, h)) in
    let size : length (take at before ++ text) ≡ at + length text = rw (length-append, length-take-le at before (omega (arith, h))) refl in
    rw (same, laid.laid, all) (take_at (take at before ++ text) (drop (at + length text) before) (at + length text) size)

-- what each telling does: the sheet has room, the line is laid in there, and the sheet ends behind it
pub told : {line before after : List ℕ} {sheet turned r : Sheet} {place : ℕ}
    → Fits sheet before → turned.at ≡ place_for (length before) sheet.at → (IsOk turned.written → IsOk sheet.written) → Laid turned.at line before place after
    → r ≡ record { at = place; written = turned.written } → Tells line sheet before r after
told {line} {before} {after} {sheet} {turned} {r} {place} fits at kept laid ends =
    let there : Laid (place_for (length before) sheet.at) line before r.at after = rw (ends, sym at) laid in
    record {
      laid = there;
      whole = λ short. stands there (omega (arith, room (length before) sheet.at fits.1, short));
      kept = λ e. kept (rw ends at e);
    }
