-- Calls one after the other: after k of them, what the rest comes to is what all come to.
use Prim.Native.Nat.{ℕ, suc, ◌+◌, ◌-◌, ◌≤◌, ◌<◌}
use mathlib.Core.List.{List}
use mathlib.Core.Path.{◌≡◌}
use native.Mathlib.Omega.{arith}
use borrow.Author.Tests.{lt-ltb, le-ltb}
use Rattle.types.specs.declared.error.Answer.TheVariants as Answered
use Rattle.tape.specs.declared.rows.Row.{Row}
use Rattle.host.specs.declared.host.Called.{Called}
use Rattle.host.specs.declared.host.Made.{Made}
use Rattle.host.specs.declared.host.Sdmmc.{Sdmmc}
use Rattle.host.specs.Calls.{called_of, no_host, made}
use Rattle.calls.specs.Serve as S
use Rattle.calls.specs.Serve.{comes}
use Rattle.book.specs.Layout.{count_of, contents_of}
use Rattle.book.specs.Readers.{heading_of, asked_at}
use Rattle.bench.specs.Bench.{settings_in, asking, buffer_after, number_of}
use Rattle.bench.specs.Trace.{place_after, calls_served}
use Rattle.meter.specs.Metered.{told_with, Served, served_at, served_from, unserved, metered}

-- one call, put together from what `ask` says of it
module _ (ws : List ℕ) (k place : ℕ) (host : Sdmmc) (l : List Row) (b : List ℕ) where
  abbrev call : S.Call
  call = asking l b ws (asked_at ws k place)

  pub one-served : {called : Called} {l' : List Row} {b' : List ℕ} {told : ℕ}
      → called ≡ called_of (comes host call) → l' ≡ (comes host call).list → b' ≡ buffer_after call (comes host call) b
      → told ≡ told_with (number_of called.answer) called.rows called.words
      → ◌≡◌ {A = Served} (record { host = called.host; list = l'; buffer = b'; told = told }) (served_at ws k place host l b)
  unfolding served_at
  one-served answered listed filled told = rw (told, answered, listed, filled)

-- n calls in all, of which k are served and have come to x
pub record Serving (ws : List ℕ) (n : ℕ) (whole : Served) (k place : ℕ) (x : Served) : Type 0 where
  pub within : k ≤ n
  pub rest : served_from (n - k) ws k place x ≡ whole

module _ {ws : List ℕ} {n : ℕ} {whole : Served} {k place : ℕ} {x : Served} (t : Serving ws n whole k place x) where
  pub next-served : {place' : ℕ} {y : Served} → k < n → place' ≡ place_after ws k place
      → y ≡ served_at ws k place x.host x.list x.buffer → Serving ws n whole (k + 1) place' y
  unfolding served_from
  next-served more at one =
      let left : n - k ≡ suc (n - (k + 1)) = omega arith in
      record { within = omega arith; rest = rw (at, one) (rw left at t.rest) }

  pub all-served : n ≤ k → x ≡ whole
  unfolding served_from
  all-served over =
      let none : n - k ≡ 0 = omega arith in
      rw none at t.rest

-- words that are no book, and words whose calls are served
module _ (ws : List ℕ) (l : List Row) (b : List ℕ) where
  pub no_book : 65535 < (heading_of ws).ready_attempts → unserved Answered.BadBook no_host l b ≡ metered ws l b
  unfolding metered
  no_book over = rw (lt-ltb _ _ over)

  abbrev host : Made
  host = made (settings_in (heading_of ws))

  pub on-host : (heading_of ws).ready_attempts ≤ 65535
      → served_from (calls_served host.answer (count_of ws)) ws 0 (contents_of ws) (unserved host.answer host.host l b) ≡ metered ws l b
  unfolding metered
  on-host within = rw (le-ltb _ _ within)
