use Prim.Native.Nat.{ℕ, ◌/◌, ◌%◌}
use mathlib.Core.List.{List, map}
use mathlib.Core.Path.{◌≡◌}
use borrow.Author.Tests.{ne_eqb, le-ltb}
use native.Mathlib.Nat.{div-one, lt_of_le_of_lt, mul-le-mul}
use lib.Dec.{lit<}
use lib.ListN.{get_or, get_or-map}
use Rattle.types.specs.Leaf.{rate_of, rate_units, rate_tenths}
use Rattle.types.proofs.Tables.{bounded}
use Rattle.types.proofs.register.transfer_rate.Goals as goal

-- the code's table has tenths of document 01's units
abbrev unit_tenths : List ℕ
unit_tenths = map (λ u. u / 10) rate_units

tenth : (k : ℕ) → get_or unit_tenths k 0 ≡ get_or rate_units k 0 / 10
tenth k = get_or-map (λ u. u / 10) rate_units k 0

-- answered before the overflow, so that a wrong entry of a table is refused for the rate that it gives
pub returns : goal.returns
unfolding rate_of
returns c = rw (ne_eqb _ _ c.if-encoded-eq1.false, div-one, le-ltb _ _ c.if-unit-gt3.false, ne_eqb _ _ c.if-value-eq0.false, ← tenth (c.args.encoded % 8))

-- at most ten million times eighty
pub overflow_mul-result : goal.overflow_mul-result
overflow_mul-result c = let byte = c.args.encoded in
    record { fits = lt_of_le_of_lt (mul-le-mul (bounded 10_000_000 unit_tenths tt (byte % 8)) (bounded 80 rate_tenths tt (byte / 8 % 16))) (lit< tt) }
