use Prim.Native.Nat.{min}
use mathlib.Core.Path.{ap, sym, ◌∙◌}
use native.Mathlib.Omega.{arith}
use lib.Seq.{length-take-le}
use Rattle.book.specs.declared.layout.Asked.{Asked}
use Rattle.telling.proofs.tell_in.Goals as goal

pub slice_bounds-tell_exact-end-2 : goal.slice_bounds-tell_exact-end-2
slice_bounds-tell_exact-end-2 g c = sym (length-take-le _ _ (omega (arith, c.min-bytes.ensures, c.requires.1)))

pub slice_bounds-tell_exact-end-4 : goal.slice_bounds-tell_exact-end-4
slice_bounds-tell_exact-end-4 g c = sym (length-take-le _ _ (omega (arith, c.min-rows.ensures, c.requires.0)))

pub returns : goal.returns
returns g c = let asked = c.call_at-asked.ensures in
    let rows = c.min-rows.ensures in
    let blocks = c.min-bytes.ensures ∙ ap (λ (x : Asked). min x.b 16) asked in
    let told = c.tell_exact.ensures in
    record { next = rw (rows, blocks, asked) at told.next; told = rw (rows, blocks, asked) at told.told }
