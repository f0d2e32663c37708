-- Which call a row of a book asks for, by the number of its kind.
use Prim.Native.Nat.{ℕ}
use mathlib.Core.List.{List}
use mathlib.Core.Path.{◌≡◌}
use lib.ListN.{length}
use Rattle.std.specs.Prelude.{None}
use Rattle.tape.specs.declared.rows.Row.{Row}
use Rattle.host.specs.Calls.{blocks_filled}
use Rattle.calls.specs.Serve as S
use Rattle.book.specs.Layout as L
use Rattle.book.proofs.Numbers.{Numbered}
use Rattle.bench.specs.Bench.{call_with}

module _ (l : List Row) (buffer : List ℕ) (c : L.Call) where
  pub initialises : c.kind ≡ 1 → S.initialise c.a c.script l ≡ call_with l buffer c
  initialises one = rw one

  pub reads : c.kind ≡ 2 → S.read c.a (length buffer) c.script l ≡ call_with l buffer c
  reads two = rw two

  pub writes : c.kind ≡ 4 → S.write c.a (blocks_filled c.«data» buffer) c.script l ≡ call_with l buffer c
  writes four = rw four

  pub asks-status : c.kind ≡ 3 → S.status c.script l ≡ call_with l buffer c
  asks-status three = rw three

  -- what is of no kind is a status call too
  pub asks-other : Numbered None c.kind → S.status c.script l ≡ call_with l buffer c
  asks-other other = rw (other.0, other.1, other.3)
