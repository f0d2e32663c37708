-- What the tests of bytes say.
use Prim.Native.Nat.{ℕ, ◌≤◌}
use mathlib.Core.Bool.{Bool, true, false, ◌&&◌}
use mathlib.Core.Path.{◌≡◌, refl}
use native.Mathlib.Omega.{arith}
use lib.Dec.{leb}
use borrow.Author.Tests.{leb-true, le-leb, lt-leb, lt-ltb, le-ltb, eq-eqb, ne_eqb}
use Rattle.wordtext.specs.Token.{between}

pub both : (p q : Bool) → p && q ≡ true → (p ≡ true) × (q ≡ true)
both true true h = (refl, refl)
both true false h =
    let z : ◌≡◌ {A = ℕ} 0 1 = cc in
    absurd (omega arith)
both false q h =
    let z : ◌≡◌ {A = ℕ} 0 1 = cc in
    absurd (omega arith)

pub between_true : (low high b : ℕ) → between low high b ≡ true → (low ≤ b) × (b ≤ high)
between_true low high b h =
    let parts = both (leb low b) (leb b high) h in
    (leb-true low b parts.0, leb-true b high parts.1)

-- tests by the facts that they test
pub ruleset tests = (le-leb, lt-leb, lt-ltb, le-ltb, eq-eqb, ne_eqb)
