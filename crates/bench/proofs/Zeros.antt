-- Parts of lists of zeros.
use Prim.Native.Nat.{ℕ, ◌+◌, ◌-◌, ◌≤◌}
use mathlib.Core.List.{List}
use mathlib.Core.Path.{◌≡◌, ap, sym, ◌∙◌}
use native.Mathlib.Omega.{arith}
use lib.ListN.{take, replicate, length-replicate, replicate-append-replicate}
use lib.Seq.{take_at}
use Rattle.tape.specs.declared.rows.Row.{Row}
use Rattle.tape.specs.Layout.{rows_in}
use Rattle.host.specs.declared.host.Sdmmc.{Sdmmc}
use Rattle.book.specs.declared.layout.Asked.{Asked}
use Rattle.book.specs.Readers.{call_asked}
use Rattle.bench.specs.Bench.{call_with, asking}
use Rattle.bench.specs.Trace.{traced_text, call_text}

pub part-of-zeros : (n m : ℕ) → n ≤ m → take {A = ℕ} n (replicate m 0) ≡ replicate n 0
part-of-zeros n m h =
    let whole : n + (m - n) ≡ m = omega arith in
    ap (λ (k : ℕ). take {A = ℕ} n (replicate k 0)) (sym whole)
    ∙ ap (take {A = ℕ} n) (sym (replicate-append-replicate {A = ℕ} n (m - n) 0))
    ∙ take_at {A = ℕ} (replicate n 0) (replicate (m - n) 0) n (length-replicate {A = ℕ} n 0)

module _ (ws : List ℕ) (asked : Asked) (rows bytes : ℕ) {l : List Row} {buffer : List ℕ} (e : l ≡ rows_in (replicate rows 0)) (f : buffer ≡ replicate bytes 0) where
  pub zeros-call : asking l buffer ws asked ≡ call_with (rows_in (replicate rows 0)) (replicate bytes 0) (call_asked ws asked)
  zeros-call = ap (λ (k : List Row). asking k buffer ws asked) e ∙ ap (λ (b : List ℕ). asking (rows_in (replicate rows 0)) b ws asked) f

  pub zeros-text : (number : ℕ) (host : Sdmmc)
      → traced_text number host l buffer ws asked ≡ call_text number host bytes (call_with (rows_in (replicate rows 0)) (replicate bytes 0) (call_asked ws asked))
  zeros-text number host = rw (e, f)
